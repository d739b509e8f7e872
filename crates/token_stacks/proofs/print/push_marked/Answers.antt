use Rattle.token_stacks.proofs.Pieces.{marked_said}
use Rattle.token_stacks.proofs.print.push_marked.Goals as goal

pub returns : goal.returns
returns c s before e = marked_said _ _ _ before c.args.rest c.args.deep s e c.in_ok-push.ensures.items
