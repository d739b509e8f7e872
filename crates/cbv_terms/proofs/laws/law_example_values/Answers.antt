use Rattle.cbv_terms.proofs.Examples.{example_values}
use Rattle.cbv_terms.proofs.laws.law_example_values.Goals as goal

pub returns : goal.returns
returns c = example_values
