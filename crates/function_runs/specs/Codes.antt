-- A function is coded as the pair of its term and of how many numbers it takes.
use Rattle.std.specs.Prelude.{ℕ}
use Rattle.std.specs.Coded.{Coded, coded×, coded_ℕ}
use Rattle.pcf_values.specs.Terms.{TermTree}
use Rattle.pcf_values.specs.Codes.{term_code}

abbrev pub function_code : Coded (TermTree × ℕ)
function_code = coded× term_code coded_ℕ
