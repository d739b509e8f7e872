use Rattle.std.specs.Prelude.{◌≡◌, ◌≤◌, ◌-◌, Some, replicate}
use Rattle.interleave_laws.specs.Maps.{run_map}
use Rattle.interleave_core.proofs.running.run_on.Given as goal

abbrev pub invariant-loop-made : goal.invariant-loop-made
invariant-loop-made l = record {
  few : l.made ≤ l.most;
  moves : run_map l.net l.fn.core (replicate l.made l.ticket) ≡ Some l.core;
}

abbrev pub decreases-loop-made : goal.decreases-loop-made
decreases-loop-made l = l.most - l.made
