use Rattle.std.proofs.Common.{◌∙◌, refl}
use Rattle.token_stacks.proofs.Laid.{lies, turns_stands, turns_seen}
use Rattle.token_stacks.proofs.WorkSteps.{pops_argument, no_argument_one, no_argument_top, no_argument_under}
use Rattle.token_stacks.proofs.stacks.Stacks.argument_in.Goals as goal
use Rattle.token_stacks.proofs.stacks.Stacks.argument_in.Goals.{then-n-self-lt2-via-then-n-self-lt2}
use Rattle.token_stacks.proofs.stacks.Stacks.argument_in.Goals.{then-n-self-lt2-via-else-n-self-lt2+then-index-ne-SYMBOL_L}
use Rattle.token_stacks.proofs.stacks.Stacks.argument_in.Goals.{then-n-self-lt2-via-else-n-self-lt2+else-index-ne-SYMBOL_L+then-index-ne-SIGNATURE}

pub invariant_of-self : goal.invariant_of-self
invariant_of-self c =
    let e = lies c.args.self.now _ _ c.self.view_is c.self.invariant in
    let h = c.len-n.ensures ∙ c.self.inside.held.words.ok.0 in
    turns_stands (pops_argument _ _ _ _ _ _ _ _ e h c.if-n-self-lt2.false c.index.ensures c.if-index-ne-SYMBOL_L.false
    c.index-else-index-ne-SYMBOL_L.ensures c.if-index-ne-SIGNATURE.false c.truncate.ensures.items)

pub returns : goal.returns
returns c =
    let e = lies c.args.self.now _ _ c.self.view_is c.self.invariant in
    let h = c.len-n.ensures ∙ c.self.inside.held.words.ok.0 in
    turns_seen (pops_argument _ _ _ _ _ _ _ _ e h c.if-n-self-lt2.false c.index.ensures c.if-index-ne-SYMBOL_L.false
    c.index-else-index-ne-SYMBOL_L.ensures c.if-index-ne-SIGNATURE.false c.truncate.ensures.items)

pub returns-then-n-self-lt2 : goal.returns-then-n-self-lt2
returns-then-n-self-lt2 c =
    let e = lies c.args.self.now _ _ c.self.view_is c.self.invariant in
    let h = c.len-n.ensures ∙ c.self.inside.held.words.ok.0 in
    elim c.then-n-self-lt2.branch [
      | then-n-self-lt2-via-then-n-self-lt2 w ↦ (no_argument_one _ _ _ _ _ e h w.if-n-self-lt2.true, refl)
      | then-n-self-lt2-via-else-n-self-lt2+then-index-ne-SYMBOL_L w ↦
          (no_argument_top _ _ _ _ _ _ e h w.index.ensures w.if-index-ne-SYMBOL_L.true, refl)
      | then-n-self-lt2-via-else-n-self-lt2+else-index-ne-SYMBOL_L+then-index-ne-SIGNATURE w ↦
          (no_argument_under _ _ _ _ _ _ e h w.index-else-index-ne-SYMBOL_L.ensures w.if-index-ne-SIGNATURE.true, refl)
    ]
