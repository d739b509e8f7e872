use Rattle.circuit_runs.proofs.Together.{same_end}
use Rattle.circuit_runs.proofs.laws.law_same_end.Goals as goal

pub returns : goal.returns
returns c = same_end
