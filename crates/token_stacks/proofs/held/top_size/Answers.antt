use Rattle.std.proofs.Common.{◌∙◌, arith}
use Rattle.token_stacks.proofs.Laid.{lies_so}
use Rattle.token_stacks.proofs.Shapes.{has_top, top_fits, no_top, other_top}
use Rattle.token_stacks.proofs.held.top_size.Goals as goal
use Rattle.token_stacks.proofs.held.top_size.Goals.{then-n-held-lt3-via-then-n-held-lt3}
use Rattle.token_stacks.proofs.held.top_size.Goals.{then-n-held-lt3-via-else-n-held-lt3+then-index-ne-SIGNATURE}

pub returns-then-n-held-lt3-clause-none : goal.returns-then-n-held-lt3-clause-none
returns-then-n-held-lt3-clause-none c =
    let l = lies_so _ _ c.requires in
    let h = c.len-n.ensures ∙ c.args.held.now.words.ok.0 in
    λ _. elim c.then-n-held-lt3.branch [
      | then-n-held-lt3-via-then-n-held-lt3 w ↦ no_top _ _ _ _ _ l h w.if-n-held-lt3.true
      | then-n-held-lt3-via-else-n-held-lt3+then-index-ne-SIGNATURE w ↦
          other_top _ _ _ _ _ _ l h w.index.ensures w.if-index-ne-SIGNATURE.true
    ]

pub returns-clause-some : goal.returns-clause-some
returns-clause-some c =
    let h = c.len-n.ensures ∙ c.args.held.now.words.ok.0 in
    has_top _ _ _ _ _ _ _ (lies_so _ _ c.requires) h (omega arith) c.index.ensures c.if-index-ne-SIGNATURE.false c.index-2.ensures

pub returns-clause-fits : goal.returns-clause-fits
returns-clause-fits c =
    let h = c.len-n.ensures ∙ c.args.held.now.words.ok.0 in
    (top_fits _ _ _ (has_top _ _ _ _ _ _ _ (lies_so _ _ c.requires) h (omega arith) c.index.ensures c.if-index-ne-SIGNATURE.false
    c.index-2.ensures)).0

pub returns-clause-long : goal.returns-clause-long
returns-clause-long c =
    let h = c.len-n.ensures ∙ c.args.held.now.words.ok.0 in
    (top_fits _ _ _ (has_top _ _ _ _ _ _ _ (lies_so _ _ c.requires) h (omega arith) c.index.ensures c.if-index-ne-SIGNATURE.false
    c.index-2.ensures)).1
