use Rattle.circuit_runs.proofs.Together.{same_states}
use Rattle.circuit_runs.proofs.laws.law_same_states.Goals as goal

pub returns : goal.returns
returns c = same_states
