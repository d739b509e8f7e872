use Rattle.circuit_runs.proofs.Telling.{program_runs}
use Rattle.circuit_runs.proofs.laws.law_program_runs.Goals as goal

pub returns : goal.returns
returns c = program_runs
