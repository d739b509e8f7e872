use Rattle.std.proofs.Common.{◌+◌, arith}
use Rattle.net_check.proofs.Looking.{roots_more}
use Rattle.net_check.proofs.checking.count_roots.Goals as goal

pub loop-node-preserved : goal.loop-node-preserved
loop-node-preserved c = (
  roots_more c.nodes-node-items.result.now c.args.net.now.nodes c.loop-node.node-index (c.loop-node.node-index + 1) c.is_root-count.result
      c.loop-node.count _
      c.nodes-node-items.ensures.nodes c.loop-node-test.true (omega arith) c.loop-node.invariant.0 c.is_root-count.ensures.count,
  omega (arith, c.loop-node.invariant.1, c.is_root-count.ensures.few),
)
