use Rattle.std.specs.Prelude.{◌-◌, ◌≤◌, length}
use Rattle.token_pool.proofs.Finishing.{Plays}
use Rattle.token_pool.proofs.ending.play_on.Given as goal

abbrev pub invariant-loop-core : goal.invariant-loop-core
invariant-loop-core l = Plays l.net l.fn.core l.budget l.finisher l.fn.log.entries l.log.entries l.core × (l.budget ≤ l.log.room)

abbrev pub decreases-loop-core : goal.decreases-loop-core
decreases-loop-core l = l.budget - length l.log.entries
