use Rattle.std.proofs.Common.{arith}
use Rattle.token_stacks.proofs.Shapes.{again_long, again_at, other_again}
use Rattle.token_stacks.proofs.held.again_sizes.Goals as goal

pub returns-then-index-ne-AGAIN-clause-none : goal.returns-then-index-ne-AGAIN-clause-none
returns-then-index-ne-AGAIN-clause-none c =
    λ _. other_again _ _ _ _ c.in_ok-size.ensures.some c.index.ensures c.if-index-ne-AGAIN.true

pub overflow_sub-held-2 : goal.overflow_sub-held-2
overflow_sub-held-2 c =
    let l = again_long _ _ _ _ c.in_ok-size.ensures.some c.index.ensures c.if-index-ne-AGAIN.false in
    let f = c.in_ok-size.ensures.fits in omega (arith, l, f)

pub overflow_sub-result : goal.overflow_sub-result
overflow_sub-result c =
    let l = again_long _ _ _ _ c.in_ok-size.ensures.some c.index.ensures c.if-index-ne-AGAIN.false in omega (arith, l)

pub overflow_sub-result-2 : goal.overflow_sub-result-2
overflow_sub-result-2 c =
    (again_at _ _ _ _ _ c.in_ok-size.ensures.some c.index.ensures c.if-index-ne-AGAIN.false c.index-2.ensures).less

pub returns-clause-some : goal.returns-clause-some
returns-clause-some c =
    (again_at _ _ _ _ _ c.in_ok-size.ensures.some c.index.ensures c.if-index-ne-AGAIN.false c.index-2.ensures).y

pub returns-clause-fits : goal.returns-clause-fits
returns-clause-fits c =
    (again_at _ _ _ _ _ c.in_ok-size.ensures.some c.index.ensures c.if-index-ne-AGAIN.false c.index-2.ensures).fits
