use Rattle.std.proofs.Common.{◌∙◌, refl}
use Rattle.token_stacks.proofs.Laid.{turns_stands, turns_seen}
use Rattle.token_stacks.proofs.WorkSteps.{pops_star, other_star}
use Rattle.token_stacks.proofs.stacks.Stacks.pop_star.Goals as goal

pub invariant_of-self : goal.invariant_of-self
invariant_of-self c =
    let h = c.len-n.ensures ∙ c.self.inside.held.words.ok.0 in
    turns_stands (pops_star c.args.self.now _ _ _ _ _ c.self.view_is c.in-Some.ensures.some c.if-size-ne1.false h c.truncate.ensures.items)

pub returns : goal.returns
returns c =
    let h = c.len-n.ensures ∙ c.self.inside.held.words.ok.0 in
    turns_seen (pops_star c.args.self.now _ _ _ _ _ c.self.view_is c.in-Some.ensures.some c.if-size-ne1.false h c.truncate.ensures.items)

pub returns-then-size-ne1 : goal.returns-then-size-ne1
returns-then-size-ne1 c =
    (other_star c.args.self.now _ _ _ c.self.view_is c.in-Some.ensures.some c.if-size-ne1.true, refl)
