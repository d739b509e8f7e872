use Rattle.std.proofs.Common.{◌∙◌}
use Rattle.token_stacks.proofs.Laid.{turns_stands, turns_seen}
use Rattle.token_stacks.proofs.BothSteps.{boxes_out}
use Rattle.token_stacks.proofs.stacks.Stacks.box_out.Goals as goal

pub invariant_of-self-2 : goal.invariant_of-self-2
invariant_of-self-2 c =
    let h = c.len-n.ensures ∙ c.self.inside.held.words.ok.0 in
    turns_stands (boxes_out c.args.self.now _ _ _ _ _ _ c.self.view_is c.in-Some.ensures.some h c.in_ok-push.ensures.items
    c.turn.ensures.swapped)

pub returns-clause-ok : goal.returns-clause-ok
returns-clause-ok c =
    let h = c.len-n.ensures ∙ c.self.inside.held.words.ok.0 in
    turns_seen (boxes_out c.args.self.now _ _ _ _ _ _ c.self.view_is c.in-Some.ensures.some h c.in_ok-push.ensures.items
    c.turn.ensures.swapped)
