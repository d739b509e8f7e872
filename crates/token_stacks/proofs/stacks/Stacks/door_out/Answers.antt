use Rattle.std.proofs.Common.{◌∙◌, refl}
use Rattle.token_stacks.proofs.Laid.{turns_stands, turns_seen}
use Rattle.token_stacks.proofs.BothSteps.{doors_out}
use Rattle.token_stacks.proofs.stacks.Stacks.door_out.Goals as goal

pub invariant_of-self-2 : goal.invariant_of-self-2
invariant_of-self-2 c =
    let h = c.len-n.ensures ∙ c.self.inside.held.words.ok.0 in
    turns_stands (doors_out c.args.self.now _ _ _ _ _ _ _ _ _ _ c.self.view_is c.in-Some.ensures.some c.in-Some-box_size.ensures.some h
    c.in_ok-push.ensures.items c.turn.ensures.swapped c.turn-2.ensures.swapped refl c.write_three.ensures.written)

pub returns-clause-ok : goal.returns-clause-ok
returns-clause-ok c =
    let h = c.len-n.ensures ∙ c.self.inside.held.words.ok.0 in
    turns_seen (doors_out c.args.self.now _ _ _ _ _ _ _ _ _ _ c.self.view_is c.in-Some.ensures.some c.in-Some-box_size.ensures.some h
    c.in_ok-push.ensures.items c.turn.ensures.swapped c.turn-2.ensures.swapped refl c.write_three.ensures.written)
