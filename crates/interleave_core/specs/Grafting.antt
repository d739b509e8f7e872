-- What serves the graft's own calls: tokens that are given tickets from one on. Only the code's own calls speak of these.
use Rattle.std.specs.Prelude.{◌≡◌, ◌<◌, ◌≤◌, ◌+◌, ◌^◌, ℕ, suc, Option, Some, None}
use Rattle.std.specs.Option.{IsSome}
use Rattle.std.specs.Ordering.{nat_cmp}
use Rattle.std.specs.FinMap.{FinMap, get, insert, remove}
use Rattle.move_rules.specs.Places.{TokenTree}

-- no ticket from n on is live
abbrev pub IsLow : FinMap nat_cmp TokenTree → ℕ → Type 0
IsLow f n = (q : ℕ) → n ≤ q → get f q ≡ None

-- each ticket but the first has a place from n on
abbrev pub AllFit : FinMap nat_cmp TokenTree → ℕ → Type 0
AllFit g n = (k : ℕ) → IsSome (get g (suc k)) → n + k < 2 ^ 32

-- the tokens h: below n those of f, and from n on those of g but its first
pub record Placed (f g : FinMap nat_cmp TokenTree) (n : ℕ) (h : FinMap nat_cmp TokenTree) : Type 0 where
  pub old : (j : ℕ) → j < n → get h j ≡ get f j
  pub new : (k : ℕ) → get h (n + k) ≡ get g (suc k)

-- the tokens with this one under a ticket, or none
abbrev pub given : FinMap nat_cmp TokenTree → ℕ → Option TokenTree → FinMap nat_cmp TokenTree
given f i None = remove f i
given f i (Some x) = insert f i x
