use Rattle.std.proofs.Common.{◌∙◌, refl}
use Rattle.token_stacks.proofs.Laid.{turns_stands, turns_seen}
use Rattle.token_stacks.proofs.WorkSteps.{unwraps, other_unwrap}
use Rattle.token_stacks.proofs.stacks.Stacks.unwrap.Goals as goal

pub invariant_of-self : goal.invariant_of-self
invariant_of-self c =
    let h = c.len-n.ensures ∙ c.self.inside.held.words.ok.0 in
    turns_stands (unwraps _ c.args.self.now _ _ _ _ _ _ c.self.view_is c.in-Some.ensures.some c.requires h c.index.ensures
    c.if-index-mark.false
    c.truncate.ensures.items)

pub returns : goal.returns
returns c =
    let h = c.len-n.ensures ∙ c.self.inside.held.words.ok.0 in
    turns_seen (unwraps _ c.args.self.now _ _ _ _ _ _ c.self.view_is c.in-Some.ensures.some c.requires h c.index.ensures
    c.if-index-mark.false
    c.truncate.ensures.items)

pub returns-then-index-mark : goal.returns-then-index-mark
returns-then-index-mark c =
    let h = c.len-n.ensures ∙ c.self.inside.held.words.ok.0 in
    (other_unwrap _ c.args.self.now _ _ _ _ _ c.self.view_is c.in-Some.ensures.some c.requires h c.index.ensures c.if-index-mark.true, refl)
