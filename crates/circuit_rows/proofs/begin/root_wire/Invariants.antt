use Rattle.std.specs.Prelude.{◌≡◌, drop}
use Rattle.interleave_laws.specs.Start.{root_wire}
use Rattle.circuit_rows.proofs.begin.root_wire.Given as goal

abbrev pub invariant-loop-node : goal.invariant-loop-node
invariant-loop-node l = root_wire (drop l.node-index l.nodes) ≡ root_wire l.nodes
