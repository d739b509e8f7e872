use Rattle.std.proofs.Common.{length, take}
use Rattle.net_build.specs.Nets.{premises, conclusions}
use Rattle.net_check.specs.Counts.{Counted}
use Rattle.net_check.proofs.tally.count_all.Given as goal

abbrev pub invariant-loop-node : goal.invariant-loop-node
invariant-loop-node l =
    Counted conclusions (length l.net.wires) (take l.node-index l.net.nodes) l.below_nodes.items
    × Counted premises (length l.net.wires) (take l.node-index l.net.nodes) l.above_nodes.items
