use Rattle.std.proofs.Common.{◌∙◌}
use Rattle.token_stacks.proofs.Laid.{turns_stands, turns_seen}
use Rattle.token_stacks.proofs.BothSteps.{boxes_in}
use Rattle.token_stacks.proofs.stacks.Stacks.box_in.Goals as goal

pub invariant_of-self : goal.invariant_of-self
invariant_of-self c =
    let h = c.len-n.ensures ∙ c.self.inside.held.words.ok.0 in
    turns_stands (boxes_in c.args.self.now _ _ _ _ _ _ c.self.view_is c.in-Some.ensures.some h c.truncate.ensures.items
    c.turn.ensures.swapped)

pub returns-clause-ok : goal.returns-clause-ok
returns-clause-ok c =
    let h = c.len-n.ensures ∙ c.self.inside.held.words.ok.0 in
    turns_seen (boxes_in c.args.self.now _ _ _ _ _ _ c.self.view_is c.in-Some.ensures.some h c.truncate.ensures.items
    c.turn.ensures.swapped)
