-- A pool with the writer of a meter, and which run it is of.
-- Whoever takes a value out of a lock knows what its type says and nothing else. So the type of a metered pool names the run that it is
-- of: the meter, the net, the budget and the number of workers. These never change, and a pool that comes back from workers still has
-- them; the moves made in between are not named.
use Rattle.std.specs.Prelude.{◌≡◌, ℕ, [], length, refl}
use Rattle.std.specs.Coded.{Coded, code_by, coded×}
use Rattle.atomic_table.specs.Seated.{TableId}
use Rattle.net_build.specs.Nets.{NetTree}
use Rattle.progress_meter.specs.Meters.{Publisher, with_number}
use Rattle.progress_meter.specs.Last.{last_of}
use Rattle.progress_meter.specs.Codes.{publisher_code}
use Rattle.gate_workers.specs.declared.turn.Turn.{Turn}
use Rattle.branch_runs.specs.Branching.{Grown}
use Rattle.branch_pool.specs.Benches.{BranchPieceTree, GivesBranch, TakesBranch}
use Rattle.token_pool.specs.Pools.{Pool}
use Rattle.token_pool.specs.Booking.{halted}
use Rattle.token_pool.specs.Ending.{Suits}
use Rattle.token_pool.specs.Codes.{pool_code}

-- a pool, and the writer on whose meter its moves are counted
pub record Metered : Type 0 where
  pub pool : Pool
  pub writer : Publisher

-- a run of a net by so many workers within a budget of moves, that is watched on a meter
pub record WatchedRun : Type 0 where
  pub meter : TableId
  pub net : NetTree
  pub budget : ℕ
  pub workers : ℕ

-- the number published last is the number of moves made
abbrev pub IsLevel : Metered → Type 0
IsLevel m = last_of m.writer.published ≡ length m.pool.log

-- the pool is one of this run, and the writer that of its meter
abbrev pub IsOf : WatchedRun → Metered → Type 0
IsOf r m = (m.writer.meter ≡ r.meter) × Suits m.pool r.net r.budget r.workers

-- what a metered pool of a run keeps
abbrev pub Keeps : WatchedRun → Metered → Type 0
Keeps r m = IsLevel m × IsOf r m

-- a turn is what the pool gives, and nothing is published
abbrev pub Gives : Metered → ℕ → Turn BranchPieceTree → Metered → Type 0
Gives m w t n = GivesBranch m.pool w t n.pool × (n.writer ≡ m.writer)

-- what is handed in is what the pool takes in, and then the number of moves made is published
abbrev pub Books : Metered → ℕ → Grown → Metered → Type 0
Books m w made n = TakesBranch m.pool w made n.pool × (n.writer ≡ with_number m.writer (length n.pool.log))

-- the pool is stopped, and nothing is published
abbrev pub Halts : Metered → Metered → Type 0
Halts m n = (n.pool ≡ halted m.pool) × (n.writer ≡ m.writer)

-- a run of nothing, where none is named
abbrev pub no_run : WatchedRun
no_run = record {
  meter = record { words = 0; slots = 0; views_name = 0; atom = 0; block = 0; offset = 0; slot_names = [] };
  net = record { wires = []; nodes = [] };
  budget = 0;
  workers = 0;
}

-- how the logic stores a metered pool, as the pair of its fields
abbrev pub metered_code : Coded Metered
metered_code =
    code_by (Pool × Publisher) (coded× pool_code publisher_code) (λ m. (m.pool, m.writer))
    (λ p. record { pool = p.0; writer = p.1 }) (λ _. refl)
