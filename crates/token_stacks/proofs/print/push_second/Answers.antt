use Rattle.token_stacks.proofs.Pieces.{second_said}
use Rattle.token_stacks.proofs.print.push_second.Goals as goal

pub returns : goal.returns
returns c s e = second_said _ _ _ _ c.args.words c.args.deep _ s e c.in_ok-push.ensures.items c.in_ok-push-2.ensures.items
