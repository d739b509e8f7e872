use Rattle.std.proofs.Common.{rules}
use Rattle.gate_workers.proofs.workers.drive.Goals as goal

pub returns : goal.returns
returns g c = search rules
