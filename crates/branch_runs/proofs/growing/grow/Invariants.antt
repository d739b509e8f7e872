use Rattle.std.specs.Prelude.{◌≤◌, ◌-◌, length}
use Rattle.branch_runs.specs.Growing.{GrowsOn}
use Rattle.branch_runs.proofs.growing.grow.Given as goal

-- whichever token had grown to the beginning has grown on, by so many moves at most
abbrev pub invariant-loop-core : goal.invariant-loop-core
invariant-loop-core l = GrowsOn l.net l.fn.log l.fn.core l.log l.core × (length l.log ≤ l.most)

abbrev pub decreases-loop-core : goal.decreases-loop-core
decreases-loop-core l = l.most - length l.log
