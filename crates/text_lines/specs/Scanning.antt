-- How far the first line reaches, and numbers that are counted up to a bound.
use Rattle.std.specs.Prelude.{ℕ, suc, ◌+◌, ◌-◌, ◌*◌, List, [], ◌∷◌, nat_eq, if◌then◌else◌}
use Rattle.text_lines.specs.Digits.{capped}

-- how many bytes the first line has
abbrev pub first_length : List ℕ → ℕ
first_length [] = 0
first_length (b ∷ bs) = if nat_eq b 10 then 1 else suc (first_length bs)

-- the number of digits behind a number, up to the bound
abbrev pub capped_after : ℕ → List ℕ → ℕ
capped_after n [] = n
capped_after n (d ∷ ds) = capped_after (capped (n * 10 + (d - 48))) ds
