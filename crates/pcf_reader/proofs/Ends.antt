-- Which tokens may stand behind a phrase without going on with it.
use Rattle.std.specs.Prelude.{Bool, false, not}
use Rattle.pcf_reader.specs.Tokens.{Token, Sign, Arrow, is_sum}
use Rattle.pcf_reader.specs.Machine.{starts_atom, is_star}

abbrev pub ends_app : Token → Bool
ends_app x = not (starts_atom x)

abbrev pub ends_product : Token → Bool
ends_product (Sign op) = is_sum op
ends_product x = ends_app x

abbrev pub ends_sum : Token → Bool
ends_sum (Sign op) = false
ends_sum x = ends_product x

abbrev pub ends_tatom : Token → Bool
ends_tatom x = not (is_star x)

abbrev pub ends_ptype : Token → Bool
ends_ptype Arrow = false
ends_ptype x = ends_tatom x
