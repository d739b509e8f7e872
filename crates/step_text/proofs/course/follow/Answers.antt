use Rattle.step_text.proofs.Going.{goes}
use Rattle.step_text.proofs.course.follow.Goals as goal

pub loop-k-preserved : goal.loop-k-preserved
loop-k-preserved c =
    let step = c.in_ok-advance.ensures.went c.if-not-branch.false in
    goes c.args.from c.args.most c.args.room c.args.budget c.loop-k.k _ _ _ _ _ c.loop-k-test.true step.0 step.1 c.loop-k.invariant
