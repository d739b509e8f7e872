use Rattle.std.proofs.Common.{◌∙◌, refl}
use Rattle.token_stacks.proofs.Laid.{turns_stands, turns_seen}
use Rattle.token_stacks.proofs.BothSteps.{fixes_out, other_fix}
use Rattle.token_stacks.proofs.stacks.Stacks.fix_out.Goals as goal

pub invariant_of-self : goal.invariant_of-self
invariant_of-self c =
    let h = c.len-n.ensures ∙ c.self.inside.held.words.ok.0 in
    turns_stands (fixes_out c.args.self.now _ _ _ _ _ _ c.self.view_is c.in-Some.ensures.some c.if-size-ne1.false h c.turn.ensures.swapped
    c.truncate.ensures.items)

pub returns : goal.returns
returns c =
    let h = c.len-n.ensures ∙ c.self.inside.held.words.ok.0 in
    turns_seen (fixes_out c.args.self.now _ _ _ _ _ _ c.self.view_is c.in-Some.ensures.some c.if-size-ne1.false h c.turn.ensures.swapped
    c.truncate.ensures.items)

pub returns-then-size-ne1 : goal.returns-then-size-ne1
returns-then-size-ne1 c =
    (other_fix c.args.self.now _ _ _ c.self.view_is c.in-Some.ensures.some c.if-size-ne1.true, refl)
