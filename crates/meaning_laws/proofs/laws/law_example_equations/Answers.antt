use Rattle.meaning_laws.proofs.Examples.{example_put, example_contexts, example_rewrites, example_no_fix}
use Rattle.meaning_laws.proofs.laws.law_example_equations.Goals as goal

pub returns-clause-put : goal.returns-clause-put
returns-clause-put c = example_put

pub returns-clause-contexts : goal.returns-clause-contexts
returns-clause-contexts c = example_contexts

pub returns-clause-rewrites : goal.returns-clause-rewrites
returns-clause-rewrites c = example_rewrites

pub returns-clause-no_fix : goal.returns-clause-no_fix
returns-clause-no_fix c = example_no_fix
