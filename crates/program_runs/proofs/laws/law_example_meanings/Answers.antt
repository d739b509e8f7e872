use Rattle.program_runs.proofs.ExampleTexts.{example_texts}
use Rattle.program_runs.proofs.laws.law_example_meanings.Goals as goal

pub returns : goal.returns
returns c = example_texts
