use Rattle.std.proofs.Common.{◌+◌, length, arith}
use Rattle.net_build.specs.Nets.{premises, conclusions}
use Rattle.net_check.proofs.Counting.{counted_more}
use Rattle.net_check.proofs.tally.count_all.Goals as goal

pub loop-node-preserved : goal.loop-node-preserved
loop-node-preserved c = (
  counted_more conclusions (length c.args.net.now.wires) c.loop-node.node-index (c.loop-node.node-index + 1) c.nodes-node-items.result.now
      c.args.net.now.nodes _
      c.loop-node.below_nodes.items c.count_conclusions.new.counts.items c.nodes-node-items.ensures.nodes c.loop-node-test.true
      (omega arith) c.loop-node.invariant.0 c.count_conclusions.ensures,
  counted_more premises (length c.args.net.now.wires) c.loop-node.node-index (c.loop-node.node-index + 1) c.nodes-node-items.result.now
      c.args.net.now.nodes _
      c.loop-node.above_nodes.items c.count_premises.new.counts.items c.nodes-node-items.ensures.nodes c.loop-node-test.true (omega arith)
      c.loop-node.invariant.1 c.count_premises.ensures,
)
