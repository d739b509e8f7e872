-- A state into which another one is grafted: the other one's token of ticket 0 takes the place of a ticket's, its other tokens are given
-- tickets from the next one on, and its entries stand with those that were there.
use Rattle.std.specs.Prelude.{◌≡◌, ◌≢◌, ◌<◌, ◌+◌, ℕ, suc}
use Rattle.std.specs.Option.{option_or}
use Rattle.std.specs.FinMap.{get}
use Rattle.token_stacks.specs.Signatures.{Boxes}
use Rattle.interleave_laws.specs.Maps.{MapState}

-- T is S with B in the place of ticket i
pub record Grafts (S : MapState) (i : ℕ) (B T : MapState) : Type 0 where
  -- the token of ticket 0 in the ticket's place, or none where that ticket ended
  pub first : get T.tokens i ≡ get B.tokens 0
  -- the others under the tickets that come next, in turn
  pub others : (k : ℕ) → get T.tokens (S.next + k) ≡ get B.tokens (suc k)
  -- each other ticket as it was
  pub stays : (j : ℕ) → j < S.next → j ≢ i → get T.tokens j ≡ get S.tokens j
  pub entries : (n : ℕ) (t : Boxes) → get T.entries (n, t) ≡ option_or (get B.entries (n, t)) (get S.entries (n, t))
  -- so many tickets more were given out as the other one gave out but its first
  pub next : suc T.next ≡ S.next + B.next
  pub answered : T.answered ≡ S.answered
