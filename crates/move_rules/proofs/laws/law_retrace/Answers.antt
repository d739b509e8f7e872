use Rattle.move_rules.proofs.Rows.{retrace}
use Rattle.move_rules.proofs.laws.law_retrace.Goals as goal

pub returns : goal.returns
returns c = retrace
