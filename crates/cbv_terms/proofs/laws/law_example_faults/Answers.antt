use Rattle.cbv_terms.proofs.Examples.{example_faults}
use Rattle.cbv_terms.proofs.laws.law_example_faults.Goals as goal

pub returns : goal.returns
returns c = example_faults
