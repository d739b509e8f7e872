use Rattle.std.proofs.Common.{rules}
use Rattle.gate_workers.proofs.desk.ask.Goals as goal

pub returns-clause-ok : goal.returns-clause-ok
returns-clause-ok g c = search rules
