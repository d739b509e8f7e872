-- What holds of batches.
use Rattle.std.specs.Prelude.{ℕ}
use Rattle.token_pool.specs.declared.entries.Held.{Held}
use Rattle.batch_pool.specs.declared.pieces.BatchTaken.TheVariants.{Pause}
use Rattle.batch_pool.specs.Batches.{Batch, HoldsIn, BatchGood}
use Rattle.batch_pool.specs.Asking.{Takes}

-- where a worker is told to pause, some worker holds a ticket of some job, so that there is something to wait for
abbrev pub PauseHolds : Type 0
PauseHolds = (b c : Batch) (w : ℕ) → BatchGood b → Takes b w Pause c → (v : ℕ) × (j : ℕ) × (h : Held) × HoldsIn b.pools v j h
