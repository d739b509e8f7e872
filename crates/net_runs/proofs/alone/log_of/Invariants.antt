use Rattle.std.proofs.Common.{◌≡◌, length}
use Rattle.net_runs.proofs.LogOf.{log_so_far}
use Rattle.net_runs.proofs.alone.log_of.Given as goal

abbrev pub invariant-loop-run : goal.invariant-loop-run
invariant-loop-run l = l.log ≡ log_so_far l.worker l.runs l.run-index (length l.tickets)
