use Rattle.std.proofs.Common.{◌∙◌, refl}
use Rattle.token_stacks.proofs.Laid.{turns_stands, turns_seen}
use Rattle.token_stacks.proofs.WorkSteps.{wraps}
use Rattle.token_stacks.proofs.stacks.Stacks.wrap.Goals as goal

pub invariant_of-self-2 : goal.invariant_of-self-2
invariant_of-self-2 c =
    let h = c.len-n.ensures ∙ c.self.inside.held.words.ok.0 in
    turns_stands (wraps _ c.args.self.now _ _ _ _ _ _ c.self.view_is c.in-Some.ensures.some c.requires h c.in_ok-push.ensures.items refl)

pub returns-clause-ok : goal.returns-clause-ok
returns-clause-ok c =
    let h = c.len-n.ensures ∙ c.self.inside.held.words.ok.0 in
    turns_seen (wraps _ c.args.self.now _ _ _ _ _ _ c.self.view_is c.in-Some.ensures.some c.requires h c.in_ok-push.ensures.items refl)
