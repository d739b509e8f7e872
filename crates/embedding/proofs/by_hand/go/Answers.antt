use Rattle.embedding.proofs.Walking.{few, one_more}
use Rattle.embedding.proofs.by_hand.go.Goals as goal

pub step-requires-clause-reached : goal.step-requires-clause-reached
step-requires-clause-reached c = few c.args.net.now c.args.core.now c.args.moves c.requires.few c.requires.at

pub returns : goal.returns
returns c = one_more c.args.net.now c.args.core.now _ c.args.ticket c.args.moves c.requires.at c.in_ok-step.ensures.steps
