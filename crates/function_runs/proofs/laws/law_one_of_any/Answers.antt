use Rattle.function_runs.proofs.OneFunction.{any_settles}
use Rattle.function_runs.proofs.laws.law_one_of_any.Goals as goal

pub returns : goal.returns
returns c = any_settles c.law_one_tree.ensures c.law_one_function.ensures
