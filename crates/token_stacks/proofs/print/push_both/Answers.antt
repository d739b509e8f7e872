use Rattle.token_stacks.proofs.Pieces.{two_said}
use Rattle.token_stacks.proofs.print.push_both.Goals as goal

pub returns : goal.returns
returns c s u e f = two_said _ _ _ _ _ c.args.first c.args.second _ _ s u e f c.in_ok-push.ensures.items c.in_ok-push-2.ensures.items
