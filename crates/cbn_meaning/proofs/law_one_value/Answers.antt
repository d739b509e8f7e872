use Rattle.cbn_meaning.proofs.Head.{one_value}
use Rattle.cbn_meaning.proofs.law_one_value.Goals as goal

pub returns : goal.returns
returns c = one_value
