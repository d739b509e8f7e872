use Rattle.std.proofs.Common.{◌≡◌, length, take, None}
use Rattle.net_check.specs.Counts.{past_from}
use Rattle.net_check.proofs.loose.least_past.Given as goal

abbrev pub invariant-loop-node : goal.invariant-loop-node
invariant-loop-node l = l.least ≡ past_from (length l.net.wires) (take l.node-index l.net.nodes) None
