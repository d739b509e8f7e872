use Rattle.std.proofs.Common.{◌+◌, length, arith}
use Rattle.net_check.proofs.Counting.{past_step}
use Rattle.net_check.proofs.loose.least_past.Goals as goal

pub loop-node-preserved : goal.loop-node-preserved
loop-node-preserved c =
    past_step c.wire_count-count.result (length c.args.net.now.wires) c.loop-node.node-index (c.loop-node.node-index + 1)
    c.nodes-node-items.result.now c.args.net.now.nodes _
    c.loop-node.least c.least_of_node-least.result c.nodes-node-items.ensures.nodes c.loop-node-test.true (omega arith)
    c.wire_count-count.ensures c.loop-node.invariant c.least_of_node-least.ensures
