-- Texts that are written down line by line, and texts that have a part for each of so many numbers.
use Rattle.std.specs.Prelude.{ℕ, zero, suc, List, [], ◌∷◌, ◌++◌, codes}
use Prim.Native.String.{String}

-- these lines, each with its end
abbrev pub lines : List String → List ℕ
lines [] = []
lines (line ∷ rest) = codes line ++ (codes "\n" ++ lines rest)

-- so many texts, of 0, of 1 and so on
abbrev pub each : (ℕ → List ℕ) → ℕ → List ℕ
each f zero = []
each f (suc n) = each f n ++ f n
