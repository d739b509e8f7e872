use Rattle.adequacy_laws.proofs.Examples.{example_lengths}
use Rattle.adequacy_laws.proofs.laws.law_example_lengths.Goals as goal

pub returns : goal.returns
returns c = example_lengths
