-- Lists of lines that are equal have equal first lines, and equal lines behind them.
use Rattle.std.proofs.Common.{◌≡◌, ℕ, List, [], ◌∷◌}

-- The first lines are equal.
pub first_is : (a b : List ℕ) (ks ls : List (List ℕ)) → a ∷ ks ≡ b ∷ ls → a ≡ b
first_is a b ks ls h = cc

-- So are the lines behind them.
pub others_are : (a b : List ℕ) (ks ls : List (List ℕ)) → a ∷ ks ≡ b ∷ ls → ks ≡ ls
others_are a b ks ls h = cc

-- No lines at all have no first one.
pub no_first : (l : List ℕ) (ls : List (List ℕ)) → (let none : List (List ℕ) = [] in none ≡ l ∷ ls) → ⊥
no_first l ls h = cc
