use Rattle.std.proofs.Common.{rules}
use Rattle.gate_workers.proofs.worker.Idle.visit.Goals as goal

pub returns-in-Some-Piece-clause-taken_in : goal.returns-in-Some-Piece-clause-taken_in
returns-in-Some-Piece-clause-taken_in g c = search rules

pub returns-in-Some-Pause-clause-taken_in : goal.returns-in-Some-Pause-clause-taken_in
returns-in-Some-Pause-clause-taken_in g c = search rules
