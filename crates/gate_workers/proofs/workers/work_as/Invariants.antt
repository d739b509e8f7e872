use Rattle.std.proofs.Common.{◌≡◌}
use Rattle.gate_workers.proofs.workers.work_as.Given as goal

abbrev pub invariant-loop : goal.invariant-loop
invariant-loop g l =
    (goal.iterator-loop g).can_next l.iterator' × (goal.iterator-loop g).is_finite l.iterator' × (l.idle.number ≡ l.fn.worker.number)
