-- What a branch is that was played, and how far it is played.
-- A branch is a run of one token by itself: it, and all that it forks, move as long as each join finds the entry of a fork of its own, and
-- no answer of the whole comes. At each move the newest of its live tickets moves: it ends what it forked before it goes on. So its log is
-- settled by its token, by how many moves it may make, and by whether it is plain. A plain one makes its token's solo moves alone.
use Rattle.std.specs.Prelude.{◌≡◌, ◌≤◌, ◌<◌, ◌+◌, ◌-◌, ◌^◌, ◌⊎◌, ℕ, Bool, true, List, [], ◌∷◌, All, length, map}
use Rattle.std.specs.Prelude.{replicate, Some}
use Rattle.std.specs.FinMap.{get, insert}
use Rattle.net_build.specs.Nets.{NetTree}
use Rattle.move_rules.specs.Places.{TokenTree}
use Rattle.move_rules.specs.Moves.{move}
use Rattle.move_rules.specs.AtNode.{NotSolo}
use Rattle.interleave_laws.specs.Maps.{MapState, step_map, run_map}
use Rattle.interleave_laws.specs.Tickets.{NoneLive}
use Rattle.interleave_core.specs.Newest.{IsNewestLive}
use Rattle.interleave_core.specs.Owning.{StandsForeign}
use Rattle.branch_laws.specs.Branches.{name, start_map_at, GraftOf}
use Rattle.branch_laws.specs.Laws.{BranchedMap, Occurs}

-- a branch: its token, its moves by tickets of its own, what came of it, and whether it is plain
pub record Grown : Type 0 where
  pub before : TokenTree
  pub log : List ℕ
  pub after : MapState
  pub plain : Bool

-- the state after solo moves of the first ticket, with its token
abbrev pub walked_to : TokenTree → TokenTree → MapState
walked_to x y = record (start_map_at x) { tokens = insert (start_map_at x).tokens 0 y }

-- such a branch made solo moves of its first ticket alone
abbrev pub IsWalk : Grown → Type 0
IsWalk b = (y : TokenTree) × (b.after ≡ walked_to b.before y) × (b.log ≡ replicate (length b.log) 0)

-- what is true of every branch on a net
pub record IsBranch (net : NetTree) (b : Grown) : Type 0 where
  -- its token is live in some state that a log leads to
  pub occurs : Occurs net b.before
  -- its moves lead from that token alone to what came of it, with no answer
  pub branched : BranchedMap net b.before b.log b.after
  -- each of its tickets was given out, and its first was
  pub given : All (λ k. k < b.after.next) b.log
  pub begun : 1 ≤ b.after.next
  pub plain : b.plain ≡ true → IsWalk b

-- from a state on, the newest live ticket makes each move of the log
abbrev pub IsNewestFirst : NetTree → MapState → List ℕ → Type 0
IsNewestFirst net B [] = Unit {0}
IsNewestFirst net B (k ∷ log) = IsNewestLive B k × ((C : MapState) → step_map net B k ≡ Some C → IsNewestFirst net C log)

-- the ticket's next move is no solo move
abbrev pub StandsStill : NetTree → MapState → ℕ → Type 0
StandsStill net B k = (y : TokenTree) × (get B.tokens k ≡ Some y) × NotSolo (move net y)

-- a branch goes no further: nothing of it is live, or its newest live ticket is before the root or a join with what isn't its own, or it is
-- plain and that ticket's next move is no solo move
abbrev pub Stops : NetTree → Bool → MapState → Type 0
Stops net plain B = NoneLive B ⊎ ((k : ℕ) × IsNewestLive B k × (StandsForeign net B k ⊎ ((plain ≡ true) × StandsStill net B k)))

-- so far is a branch played: the newest live ticket moves until so many moves are made, or until it goes no further
pub record Played (net : NetTree) (most : ℕ) (b : Grown) : Type 0 where
  pub within : length b.log ≤ most
  pub newest : IsNewestFirst net (start_map_at b.before) b.log
  pub ends : (length b.log ≡ most) ⊎ Stops net b.plain b.after

-- S with the branch in the place of ticket i is T, by as many moves as the branch has; these are its tickets
pub record Taken (net : NetTree) (S : MapState) (i : ℕ) (b : Grown) (T : MapState) (tickets : List ℕ) : Type 0 where
  pub own : tickets ≡ b.log
  pub grafted : GraftOf S i b.after T
  pub steps : run_map net S (map (name i S.next) tickets) ≡ Some T
  -- each of them has a name in the state that is a number of the machine
  pub fit : All (λ k. S.next + (k - 1) < 2 ^ 32) tickets

-- a net of nothing, where none is named
abbrev pub no_net : NetTree
no_net = record { wires = []; nodes = [] }
