-- Where a move stands in the runs that a log is kept as: its run, and the place at which that run begins. Only the code's own calls speak
-- of this.
use Rattle.std.specs.Prelude.{◌≡◌, ℕ, ◌+◌, ◌<◌, ◌≤◌, List, length, take, get_or}
use Rattle.schedule_log.specs.KeptRuns.{MovesSeen, spread}

-- The move at the place p, if it isn't past the end, is one of run j, which begins at the place b.
pub record StandsAt (rs : List MovesSeen) (j b p : ℕ) : Type 0 where
  pub begins : b ≡ length (spread (take j rs))
  pub from : b ≤ p
  pub there : p < length (spread rs) → j < length rs
  pub below : (d : MovesSeen) → p < length (spread rs) → p < b + (get_or rs j d).count
