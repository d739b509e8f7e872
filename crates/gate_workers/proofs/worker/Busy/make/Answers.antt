use Rattle.std.proofs.Common.{rules}
use Rattle.gate_workers.proofs.worker.Busy.make.Goals as goal

pub returns-clause-passed : goal.returns-clause-passed
returns-clause-passed g c = search rules
