use Rattle.function_runs.proofs.Trees.{typed_tree, ground_text}
use Rattle.function_runs.proofs.laws.law_applied_tree.Goals as goal

pub returns-clause-tree : goal.returns-clause-tree
returns-clause-tree c = typed_tree

pub returns-clause-text : goal.returns-clause-text
returns-clause-text c = ground_text
