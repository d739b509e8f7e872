use Rattle.std.proofs.Common.{◌≡◌}
use Rattle.gate_workers.proofs.worker.Idle.wait.Given as goal

abbrev pub invariant-loop : goal.invariant-loop
invariant-loop g l =
    (goal.iterator-loop g).can_next l.iterator' × (goal.iterator-loop g).is_finite l.iterator'
    × (l.idle.number ≡ l.fn.self.number) × (l.idle.turns ≡ l.fn.self.turns)
