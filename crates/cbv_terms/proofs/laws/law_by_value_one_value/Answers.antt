use Rattle.cbv_terms.proofs.Derived.{by_value_more, one_value}
use Rattle.cbv_terms.proofs.laws.law_by_value_one_value.Goals as goal

pub returns-clause-more_depth : goal.returns-clause-more_depth
returns-clause-more_depth c = by_value_more

pub returns-clause-one_value : goal.returns-clause-one_value
returns-clause-one_value c = one_value
