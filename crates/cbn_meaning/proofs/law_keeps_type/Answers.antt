use Rattle.cbn_meaning.proofs.Keeps.{result_keeps_type, head_keeps_type, subst_keeps_type}
use Rattle.cbn_meaning.proofs.law_keeps_type.Goals as goal

pub returns-clause-results : goal.returns-clause-results
returns-clause-results c = result_keeps_type

pub returns-clause-head_steps : goal.returns-clause-head_steps
returns-clause-head_steps c = head_keeps_type

pub returns-clause-substitution : goal.returns-clause-substitution
returns-clause-substitution c = subst_keeps_type
