use Rattle.std.proofs.Common.{◌∙◌, refl}
use Rattle.token_stacks.proofs.Laid.{lies, empty_test}
use Rattle.token_stacks.proofs.stacks.Stacks.work_is_empty.Goals as goal

pub returns : goal.returns
returns c =
    let e = lies c.args.self.now _ _ c.self.view_is c.self.invariant in
    empty_test _ _ _ _ _ _ e (c.len.ensures ∙ c.self.inside.held.words.ok.0) refl
