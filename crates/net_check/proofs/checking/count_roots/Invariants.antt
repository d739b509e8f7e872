use Rattle.std.proofs.Common.{◌≡◌, ◌≤◌, take}
use Rattle.net_build.specs.Sound.{roots}
use Rattle.net_check.proofs.checking.count_roots.Given as goal

abbrev pub invariant-loop-node : goal.invariant-loop-node
invariant-loop-node l = (l.count ≡ roots (take l.node-index l.net.nodes)) × (l.count ≤ l.node-index)
