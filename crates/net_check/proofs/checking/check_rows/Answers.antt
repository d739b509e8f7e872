use Rattle.std.proofs.Common.{◌+◌, arith}
use Rattle.net_check.proofs.Looking.{meet_more, stands_at}
use Rattle.net_check.proofs.Verdict.{node_row_fault}
use Rattle.net_check.proofs.checking.check_rows.Goals as goal

pub returns-in-Some-clause-fault : goal.returns-in-Some-clause-fault
returns-in-Some-clause-fault c =
    node_row_fault c.args.net.now c.loop-n.n _ c.in-Some.fault c.loop-n.invariant
    (stands_at c.nodes-node-items.result.now c.args.net.now.nodes c.loop-n.n _ c.nodes-node-items.ensures.nodes c.loop-n-test.true)
    c.in-Some.ensures

pub loop-n-preserved : goal.loop-n-preserved
loop-n-preserved c =
    let s = stands_at c.nodes-node-items.result.now c.args.net.now.nodes c.loop-n.n _ c.nodes-node-items.ensures.nodes c.loop-n-test.true in
    meet_more c.args.net.now c.loop-n.n (c.loop-n.n + 1) _ c.loop-n.invariant s c.in_default.ensures.0 c.in_default.ensures.1 (omega arith)
