use Rattle.std.proofs.Common.{subst, arith}
use Rattle.move_rules.specs.Walks.{SoloStep}
use Rattle.interleave_core.proofs.Trailing.{one_more}
use Rattle.interleave_core.proofs.live.moves_of.Goals as goal

pub loop-made-preserved : goal.loop-made-preserved
loop-made-preserved c =
    let token = c.loop-made.token in
    let new = c.solo_step.new.token in
    let moves = subst (λ made. SoloStep c.args.net.now made token new) c.if-not-branch.false c.in_ok-solo_step.ensures.ok in
    let below = c.loop-made-test.true in
    (one_more c.args.net.now c.loop-made.made c.args.token.now token new c.loop-made.invariant.0 moves, omega (arith, below))
