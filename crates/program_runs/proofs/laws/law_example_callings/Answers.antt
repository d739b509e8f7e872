use Rattle.program_runs.proofs.Examples.{example_callings}
use Rattle.program_runs.proofs.laws.law_example_callings.Goals as goal

pub returns : goal.returns
returns c = example_callings
