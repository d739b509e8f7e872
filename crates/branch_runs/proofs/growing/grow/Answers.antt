use Rattle.branch_runs.proofs.Grown.{turn_ends}
use Rattle.branch_runs.proofs.growing.grow.Goals as goal

pub returns-then-not-branch-clause-ends : goal.returns-then-not-branch-clause-ends
returns-then-not-branch-clause-ends c =
    turn_ends c.args.net.now c.args.most c.loop-core.log c.go_on.new.log c.go_on.new.core c.in_ok-go_on-in-Some.field-0 c.if-not-branch.true
    c.in_ok-go_on-in-Some.ensures.goes
