-- What keeps a pool good.
use Rattle.std.specs.Prelude.{◌-◌, ◌≡◌, ◌≤◌, ◌<◌, ◌⊎◌, ℕ, List, Some, None}
use Rattle.net_build.specs.Nets.{NetTree}
use Rattle.interleave_laws.specs.Runs.{Runs}
use Rattle.interleave_laws.specs.Tickets.{IsLive}
use Rattle.token_pool.specs.declared.entries.Held.{Held}
use Rattle.token_pool.specs.declared.entries.Reply.TheVariants.{Token, Idle, Reserved}
use Rattle.token_pool.specs.Pools.{Pool, Holds, InLimits, Good, started}
use Rattle.token_pool.specs.Turns.{own, turn, taken, IsLeastFree}
use Rattle.branch_runs.specs.Branching.{Grown, IsBranch}
use Rattle.token_pool.specs.Booking.{Books, halted}
use Rattle.token_pool.specs.Branches.{branch_turn, branch_taken, IsFree, MovedLast, BranchMoves, BooksAll}
use Rattle.token_pool.specs.declared.ending.Ended.{Ended}
use Rattle.token_pool.specs.Ending.{Finishes, Replays}

-- on a net that runs, a pool starts good
abbrev pub StartGood : Type 0
StartGood = (net : NetTree) (budget workers : ℕ) → Runs net → InLimits budget workers → Good (started net budget workers)

-- it stays good after each worker's turn
abbrev pub TakeKeeps : Type 0
TakeKeeps = (p : Pool) (w : ℕ) → Good p → w < p.workers → Good (taken p w)

-- what a worker is given is held by it, and live
abbrev pub GivesHeld : Type 0
GivesHeld = (p : Pool) (w : ℕ) (h : Held) → Good p → w < p.workers → turn p w ≡ Token h →
    Holds (taken p w).held w h × IsLive p.state h.ticket

-- what it is given is what it held, or else the least free ticket
abbrev pub GivesLeast : Type 0
GivesLeast = (p : Pool) (w : ℕ) (h : Held) → turn p w ≡ Token h →
    (own p.held w ≡ Some h) ⊎ ((own p.held w ≡ None) × IsLeastFree p h.ticket)

-- where a worker is told that nothing is free, some worker holds something
abbrev pub IdleHolds : Type 0
IdleHolds = (p : Pool) (w : ℕ) → Good p → turn p w ≡ Idle → (v : ℕ) × (h : Held) × Holds p.held v h

-- and so it does where all of the budget is made or set aside
abbrev pub ReservedHolds : Type 0
ReservedHolds = (p : Pool) (w : ℕ) → Good p → turn p w ≡ Reserved → (v : ℕ) × (h : Held) × Holds p.held v h

-- and where moves of what a worker holds are booked, at least one and at most as many as are set aside
abbrev pub BookKeeps : Type 0
BookKeeps = (p q : Pool) (w : ℕ) (h : Held) (n : ℕ) → Good p → Holds p.held w h → w < p.workers →
    1 ≤ n → n ≤ h.allowance → Books p q w h n → Good q

-- and where it is stopped
abbrev pub StopKeeps : Type 0
StopKeeps = (p : Pool) → Good p → Good (halted p)

-- what is made of a good pool by the finisher replays on its net
abbrev pub FinishReplays : Type 0
FinishReplays = (p : Pool) (e : Ended) → Good p → Finishes p e → Replays p.net p.budget p.workers e

-- the same of a pool whose pieces are branches
abbrev pub TakeBranchKeeps : Type 0
TakeBranchKeeps = (p : Pool) (w : ℕ) → Good p → w < p.workers → Good (branch_taken p w)

abbrev pub GivesBranchHeld : Type 0
GivesBranchHeld = (p : Pool) (w : ℕ) (h : Held) → Good p → w < p.workers → branch_turn p w ≡ Token h →
    Holds (branch_taken p w).held w h × IsLive p.state h.ticket

-- what it is given is what it held; or the least free ticket; or, where it made the last move, the free ticket that was given out last or
-- the one that it moved
abbrev pub GivesOwn : Type 0
GivesOwn = (p : Pool) (w : ℕ) (h : Held) → branch_turn p w ≡ Token h →
    (own p.held w ≡ Some h) ⊎ ((own p.held w ≡ None) × (IsLeastFree p h.ticket ⊎ (IsFree p h.ticket × ((i : ℕ) × MovedLast p w i ×
    ((h.ticket ≡ p.state.next - 1) ⊎ (h.ticket ≡ i))))))

-- and the one that was given out last, wherever that is free
abbrev pub GivesNewest : Type 0
GivesNewest = (p : Pool) (w : ℕ) (h : Held) (i : ℕ) → branch_turn p w ≡ Token h → own p.held w ≡ None → MovedLast p w i →
    IsFree p (p.state.next - 1) → h.ticket ≡ p.state.next - 1

-- and else the one that it moved, wherever that is free
abbrev pub GivesMoved : Type 0
GivesMoved = (p : Pool) (w : ℕ) (h : Held) (i : ℕ) → branch_turn p w ≡ Token h → own p.held w ≡ None → MovedLast p w i →
    (IsFree p (p.state.next - 1) → ⊥) → IsFree p i → h.ticket ≡ i

abbrev pub BookBranchKeeps : Type 0
BookBranchKeeps = (p q : Pool) (w : ℕ) (h : Held) (b : Grown) (tickets : List ℕ) → Good p → Holds p.held w h → w < p.workers →
    IsBranch p.net b → BranchMoves p.net p.state p.workers h b tickets → BooksAll p q w tickets → Good q
