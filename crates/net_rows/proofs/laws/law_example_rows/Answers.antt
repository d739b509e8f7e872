use Rattle.std.proofs.Common.{refl}
use Rattle.net_rows.proofs.laws.law_example_rows.Goals as goal

pub returns-clause-nets : goal.returns-clause-nets
returns-clause-nets c = (refl, refl)

pub returns-clause-succ_rows : goal.returns-clause-succ_rows
returns-clause-succ_rows c = refl

pub returns-clause-sum_rows : goal.returns-clause-sum_rows
returns-clause-sum_rows c = refl

pub returns-clause-double_rows : goal.returns-clause-double_rows
returns-clause-double_rows c = refl
