use Rattle.std.proofs.Common.{rules}
use Rattle.circuit_runs.proofs.run.is_down.Goals as goal

pub returns : goal.returns
returns c = search rules
