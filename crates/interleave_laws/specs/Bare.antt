-- States without their tickets.
-- Two orders of the same moves give the same tokens under other tickets, so the order of moves is said not to matter of these alone.
-- What is compared is the set of tokens, the entries and the answer; in a state that a net reaches, no token stands twice.
use Rattle.std.specs.Prelude.{◌≡◌, ℕ, Some}
use Rattle.token_stacks.specs.Signatures.{Boxes}
use Rattle.move_rules.specs.Places.{TokenTree}
use Rattle.interleave_laws.specs.States.{State}

-- the token is live
abbrev pub StandsIn : State → TokenTree → Type 0
StandsIn S x = (i : ℕ) × (S.tokens i ≡ Some x)

-- the same tokens are live, and the entries and the answer are the same
pub record SameBare (S T : State) : Type 0 where
  pub stays : (x : TokenTree) → StandsIn S x → StandsIn T x
  pub back : (x : TokenTree) → StandsIn T x → StandsIn S x
  pub entries : (n : ℕ) (t : Boxes) → S.entries n t ≡ T.entries n t
  pub answered : S.answered ≡ T.answered
