use Rattle.std.specs.Prelude.{◌≡◌, ◌-◌, ◌≤◌, length}
use Rattle.metered_pool.specs.Walking.{Walked}
use Rattle.metered_pool.proofs.alone.move_on.Given as goal

abbrev pub invariant-loop-core : goal.invariant-loop-core
invariant-loop-core l = Walked l.net l.log.entries l.core × (length l.fn.log.entries ≤ length l.log.entries) ×
    (length l.log.entries ≤ l.end) × (l.log.room ≡ l.fn.log.room)

abbrev pub decreases-loop-core : goal.decreases-loop-core
decreases-loop-core l = l.end - length l.log.entries
