use Rattle.std.specs.Prelude.{◌≡◌, ◌-◌, ◌≤◌, length}
use Rattle.progress_meter.specs.Last.{last_of}
use Rattle.metered_pool.specs.Walking.{Walked}
use Rattle.metered_pool.proofs.alone.walk.Given as goal

abbrev pub invariant-loop-log : goal.invariant-loop-log
invariant-loop-log g l = Walked l.net l.log.entries l.core × (length l.log.entries ≤ l.budget) × (l.log.room ≡ l.fn.log.room) ×
    (last_of l.writer.published ≡ length l.log.entries) × (l.writer.meter ≡ l.fn.writer.meter)

abbrev pub decreases-loop-log : goal.decreases-loop-log
decreases-loop-log g l = l.budget - length l.log.entries
