use Rattle.token_stacks.proofs.Pieces.{mark_said}
use Rattle.token_stacks.proofs.print.push_mark.Goals as goal

pub returns : goal.returns
returns c before = mark_said _ _ _ before c.in_ok-push.ensures.items
