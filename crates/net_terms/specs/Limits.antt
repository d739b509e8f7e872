-- The limit of the terms that are read from nets as a number, inclusive, under the name that definitions and contracts use.
use Rattle.std.specs.Prelude.{ℕ}

-- the most height of a term that is read back from a net
abbrev pub most_term_height : ℕ
most_term_height = 2600
