-- The laws of the text: no two names have one code, and the digits of a value are those of its number.
use Rattle.std.specs.Prelude.{◌≡◌, ◌<◌, ◌+◌, ◌-◌, ◌*◌, ◌^◌, ℕ, List, [], ◌∷◌}
use Rattle.verilog_waves.specs.Dump.{code, digits_text}

-- names at two places have two codes
abbrev pub CodesDiffer : Type 0
CodesDiffer = (i j : ℕ) → code i ≡ code j → i ≡ j

-- the number of some digits of base 2 behind a number
abbrev pub number_of : ℕ → List ℕ → ℕ
number_of n [] = n
number_of n (d ∷ ds) = number_of (n * 2 + (d - 48)) ds

-- the digits of a number's value are those of the number
abbrev pub ValuesTell : Type 0
ValuesTell = (w n : ℕ) → n < 2 ^ w → number_of 0 (digits_text w n) ≡ n
