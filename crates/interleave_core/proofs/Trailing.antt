-- A walk of a live token, and what is written down of it.
use Rattle.std.proofs.Common.{◌≡◌, ℕ, true, ◌+◌, List, [], ◌∷◌, ◌++◌, length, refl, ap, ◌∙◌}
use Rattle.std.specs.Prelude.{map, replicate}
use Rattle.std.proofs.lemmas.List.{length-append}
use Rattle.net_build.specs.Nets.{NetTree}
use Rattle.move_rules.specs.declared.token.Token.{Token}
use Rattle.move_rules.specs.Places.{TokenTree}
use Rattle.move_rules.specs.Moves.{solo, move}
use Rattle.move_rules.specs.Views.{token_of}
use Rattle.move_rules.specs.Walks.{Walks, SoloStep}
use Rattle.interleave_core.specs.Moving.{Makes}

-- one move more behind a walk
walks_more : (net : NetTree) (trail : List ℕ) (k : ℕ) (x y z : TokenTree) → Walks net x trail y → move net y ≡ solo k z →
    Walks net x (trail ++ k ∷ []) z
walks_more net [] k x y z w h = (z, ap (move net) w ∙ h, refl)
walks_more net (a ∷ trail) k x y z (u, m, w) h = (u, m, walks_more net trail k u y z w h)

-- one move more is one more to count
pub one_more : (net : NetTree) (n : ℕ) (x y z : Token) → Makes net n x y → SoloStep net true y z → Makes net (n + 1) x z
one_more net n x y z (trail, walks, many) (k, moves) = (
  trail ++ k ∷ [],
  walks_more net trail k (token_of x) (token_of y) (token_of z) walks moves,
  length-append trail (k ∷ []) ∙
      ap (λ n. n + 1) many,
)

-- one ticket a move
pub tickets_are : (i : ℕ) (trail : List ℕ) → replicate (length trail) i ≡ map (λ (n : ℕ). i) trail
tickets_are i [] = refl
tickets_are i (n ∷ trail) = ap (λ l. i ∷ l) (tickets_are i trail)
