use Rattle.std.specs.Prelude.{◌≡◌, drop}
use Rattle.interleave_laws.specs.Start.{root_wire}
use Rattle.interleave_core.proofs.root.root.Given as goal

abbrev pub invariant-loop-node : goal.invariant-loop-node
invariant-loop-node l = root_wire (drop l.node-index l.net.nodes) ≡ root_wire l.net.nodes
