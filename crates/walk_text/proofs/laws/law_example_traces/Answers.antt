use Rattle.walk_text.proofs.Examples.{example_traces}
use Rattle.walk_text.proofs.laws.law_example_traces.Goals as goal

pub returns : goal.returns
returns c = example_traces
