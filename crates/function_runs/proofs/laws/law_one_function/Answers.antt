use Rattle.function_runs.proofs.OneFunction.{functions_settle}
use Rattle.function_runs.proofs.laws.law_one_function.Goals as goal

pub returns : goal.returns
returns c = functions_settle c.law_one_tree.ensures c.law_text_one_fault.ensures c.law_text_or_fault.ensures.not_both
