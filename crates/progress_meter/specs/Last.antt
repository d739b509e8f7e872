-- The last number of a list of numbers.
use Rattle.std.specs.Prelude.{ℕ, List, [], ◌∷◌}

-- the last of these numbers, or 0 where there is none
abbrev pub last_of : List ℕ → ℕ
last_of [] = 0
last_of (x ∷ []) = x
last_of (x ∷ y ∷ ys) = last_of (y ∷ ys)
