use Rattle.std.proofs.Common.{◌∙◌, arith}
use Rattle.token_stacks.proofs.Shapes.{pair_long, pair_at, other_pair}
use Rattle.token_stacks.proofs.held.pair_sizes.Goals as goal

pub returns-then-index-ne-PAIR-clause-none : goal.returns-then-index-ne-PAIR-clause-none
returns-then-index-ne-PAIR-clause-none c =
    let h = c.len-n.ensures ∙ c.args.held.now.words.ok.0 in
    λ _. other_pair _ _ _ _ _ c.in_ok-size.ensures.some h c.index.ensures c.if-index-ne-PAIR.true

pub overflow_sub-n-2 : goal.overflow_sub-n-2
overflow_sub-n-2 c =
    let h = c.len-n.ensures ∙ c.args.held.now.words.ok.0 in
    let l = pair_long _ _ _ _ _ c.in_ok-size.ensures.some h c.index.ensures c.if-index-ne-PAIR.false in
    let f = c.in_ok-size.ensures.fits in omega (arith, l, f, h)

pub overflow_sub-result : goal.overflow_sub-result
overflow_sub-result c =
    let h = c.len-n.ensures ∙ c.args.held.now.words.ok.0 in
    let l = pair_long _ _ _ _ _ c.in_ok-size.ensures.some h c.index.ensures c.if-index-ne-PAIR.false in omega (arith, l)

pub overflow_sub-result-2 : goal.overflow_sub-result-2
overflow_sub-result-2 c =
    let h = c.len-n.ensures ∙ c.args.held.now.words.ok.0 in
    (pair_at _ _ _ _ _ _ c.in_ok-size.ensures.some h c.index.ensures c.if-index-ne-PAIR.false c.index-2.ensures).less

pub returns-clause-some : goal.returns-clause-some
returns-clause-some c =
    let h = c.len-n.ensures ∙ c.args.held.now.words.ok.0 in
    (pair_at _ _ _ _ _ _ c.in_ok-size.ensures.some h c.index.ensures c.if-index-ne-PAIR.false c.index-2.ensures).pair

pub returns-clause-fits : goal.returns-clause-fits
returns-clause-fits c =
    let h = c.len-n.ensures ∙ c.args.held.now.words.ok.0 in
    (pair_at _ _ _ _ _ _ c.in_ok-size.ensures.some h c.index.ensures c.if-index-ne-PAIR.false c.index-2.ensures).fits
