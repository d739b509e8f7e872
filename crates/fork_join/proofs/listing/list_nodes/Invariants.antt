use Rattle.std.specs.Prelude.{◌≡◌, ◌++◌, map}
use Rattle.fork_join.specs.Listed.{open_of}
use Rattle.fork_join.specs.Nested.{flat}
use Rattle.fork_join.proofs.Rising.{AllOrdered}
use Rattle.fork_join.proofs.listing.list_nodes.Given as goal

-- the list and what is left of all nodes
abbrev pub invariant-loop-node : goal.invariant-loop-node
invariant-loop-node l =
    (map open_of l.list.items ++ flat l.node-iterator ≡ flat l.fn.nodes.entries) ×
    (AllOrdered l.node-iterator → AllOrdered l.fn.nodes.entries)
