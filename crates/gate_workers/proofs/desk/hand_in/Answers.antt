use Rattle.std.proofs.Common.{rules}
use Rattle.gate_workers.proofs.desk.hand_in.Goals as goal

pub returns-in-Some-Ok-clause-ok : goal.returns-in-Some-Ok-clause-ok
returns-in-Some-Ok-clause-ok g c = search rules

pub returns-in-Some-Err-clause-ok : goal.returns-in-Some-Err-clause-ok
returns-in-Some-Err-clause-ok g c = search rules
