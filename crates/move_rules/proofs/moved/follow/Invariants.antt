use Rattle.move_rules.proofs.Walking.{Walking}
use Rattle.move_rules.proofs.moved.follow.Given as goal

abbrev pub invariant-loop-left : goal.invariant-loop-left
invariant-loop-left l = Walking l.net l.fn.token l.fn.token l.token l.trail.items l.left l.most

abbrev pub decreases-loop-left : goal.decreases-loop-left
decreases-loop-left l = l.left
