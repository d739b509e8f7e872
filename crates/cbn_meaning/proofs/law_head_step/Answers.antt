use Rattle.cbn_meaning.proofs.Head.{head_means}
use Rattle.cbn_meaning.proofs.law_head_step.Goals as goal

pub returns : goal.returns
returns c = head_means
