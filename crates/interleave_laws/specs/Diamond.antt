-- The order of two moves: the statement of `law_diamond`.
-- Both orders lead to the same tokens, entries and answer. The tickets may differ: two forks give out their new tickets in the order in
-- which they come, and of two answers that meet at one entry the second one goes on.
use Rattle.std.specs.Prelude.{◌≡◌, ◌≢◌, ℕ, Some}
use Rattle.move_rules.specs.Places.{TokenTree}
use Rattle.interleave_laws.specs.States.{State, step}
use Rattle.interleave_laws.specs.Runs.{InEveryRun}
use Rattle.interleave_laws.specs.Bare.{SameBare}

-- two live tickets may move in either order, and the states without their tickets are one
abbrev pub Diamond : Type 0
Diamond = InEveryRun (λ net log S. (i j : ℕ) (x y : TokenTree) → S.tokens i ≡ Some x → S.tokens j ≡ Some y → i ≢ j →
    (S1 S12 S2 S21 : State) × (step net S i ≡ Some S1) × (step net S1 j ≡ Some S12) × (step net S j ≡ Some S2) ×
    (step net S2 i ≡ Some S21) × SameBare S12 S21)
