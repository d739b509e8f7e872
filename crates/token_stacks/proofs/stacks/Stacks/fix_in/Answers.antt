use Rattle.std.proofs.Common.{◌∷◌, ◌∙◌}
use Rattle.token_stacks.specs.Signatures.{star}
use Rattle.token_stacks.proofs.Laid.{lies, stands, reads}
use Rattle.token_stacks.proofs.BothSteps.{fixes_in}
use Rattle.token_stacks.proofs.stacks.Stacks.fix_in.Goals as goal

pub invariant_of-self-2 : goal.invariant_of-self-2
invariant_of-self-2 c =
    let e = lies c.args.self.now _ _ c.self.view_is c.self.invariant in
    let h = c.len-n.ensures ∙ c.self.inside.held.words.ok.0 in
    stands c.args.self.now.work (star ∷ c.args.self.now.boxes) _ _
    (fixes_in _ _ _ _ _ _ _ e h c.in_ok-append.ensures.ok c.turn.ensures.swapped)

pub returns-clause-ok : goal.returns-clause-ok
returns-clause-ok c =
    let e = lies c.args.self.now _ _ c.self.view_is c.self.invariant in
    let h = c.len-n.ensures ∙ c.self.inside.held.words.ok.0 in
    reads c.args.self.now.work (star ∷ c.args.self.now.boxes) _ _
    (fixes_in _ _ _ _ _ _ _ e h c.in_ok-append.ensures.ok c.turn.ensures.swapped)
