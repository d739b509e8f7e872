use Rattle.cbn_meaning.proofs.Depth.{eval_more}
use Rattle.cbn_meaning.proofs.law_more_depth.Goals as goal

pub returns : goal.returns
returns c = eval_more
