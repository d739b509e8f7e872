-- A branch while it is played. Only the code's own calls speak of these.
use Rattle.std.specs.Prelude.{◌≡◌, ◌≤◌, ◌<◌, ◌⊎◌, ℕ, Bool, List, All, length, replicate}
use Rattle.net_build.specs.Nets.{NetTree}
use Rattle.move_rules.specs.Places.{TokenTree}
use Rattle.move_rules.specs.Moves.{move}
use Rattle.move_rules.specs.AtNode.{NotSolo}
use Rattle.move_rules.specs.Walks.{Walks}
use Rattle.interleave_laws.specs.Maps.{MapState}
use Rattle.interleave_core.specs.Newest.{IsNewestLive}
use Rattle.interleave_core.specs.Owning.{StandsForeign}
use Rattle.branch_laws.specs.Branches.{start_map_at}
use Rattle.branch_laws.specs.Laws.{BranchedMap, Occurs}
use Rattle.branch_runs.specs.Branching.{IsNewestFirst, IsBranch, Played, walked_to}
use Rattle.branch_runs.specs.Codes.{grown}

-- the log leads from the token alone to the state, by its newest live tickets
pub record Grows (net : NetTree) (x : TokenTree) (log : List ℕ) (B : MapState) : Type 0 where
  pub branched : BranchedMap net x log B
  pub given : All (λ k. k < B.next) log
  pub begun : 1 ≤ B.next
  pub newest : IsNewestFirst net (start_map_at x) log

-- some token grew so
abbrev pub HasGrown : NetTree → List ℕ → MapState → Type 0
HasGrown net log B = (x : TokenTree) × Occurs net x × Grows net x log B

-- whichever token grew to the one state grew to the other
abbrev pub GrowsOn : NetTree → List ℕ → MapState → List ℕ → MapState → Type 0
GrowsOn net log B log' B' = (x : TokenTree) → Occurs net x → Grows net x log B → Grows net x log' B'

-- so many moves are made, or the newest live ticket is before the root or a join with what isn't the branch's own
abbrev pub EndsTurn : NetTree → ℕ → List ℕ → MapState → Type 0
EndsTurn net most log B = (length log ≡ most) ⊎ ((k : ℕ) × IsNewestLive B k × StandsForeign net B k)

-- the token made its solo moves alone, until so many are made or its next move is no solo move
pub record WalksAlone (net : NetTree) (x : TokenTree) (most : ℕ) (log : List ℕ) (B : MapState) : Type 0 where
  pub after : TokenTree
  pub trail : List ℕ
  pub walks : Walks net x trail after
  pub state : B ≡ walked_to x after
  pub moves : log ≡ replicate (length trail) 0
  pub within : length trail ≤ most
  pub ends : (length trail ≡ most) ⊎ NotSolo (move net after)

-- what is played of a token is a branch, played as far as is asked
abbrev pub PlayedSo : NetTree → TokenTree → ℕ → Bool → List ℕ → MapState → Type 0
PlayedSo net x most plain log B = IsBranch net (grown x log B plain) × Played net most (grown x log B plain)
