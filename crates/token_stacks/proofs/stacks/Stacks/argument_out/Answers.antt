use Rattle.token_stacks.proofs.Laid.{turns_stands, turns_seen}
use Rattle.token_stacks.proofs.WorkSteps.{pushes_argument}
use Rattle.token_stacks.proofs.stacks.Stacks.argument_out.Goals as goal

pub invariant_of-self-2 : goal.invariant_of-self-2
invariant_of-self-2 c =
    turns_stands (pushes_argument c.args.self.now _ _ _ _ c.self.view_is c.in-Some.ensures.some c.in_ok-push.ensures.items)

pub returns-clause-ok : goal.returns-clause-ok
returns-clause-ok c =
    turns_seen (pushes_argument c.args.self.now _ _ _ _ c.self.view_is c.in-Some.ensures.some c.in_ok-push.ensures.items)
