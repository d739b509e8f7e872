use Rattle.std.specs.Prelude.{◌≡◌, ◌++◌, map}
use Rattle.fork_join.specs.Listed.{open_of}
use Rattle.fork_join.specs.Nested.{tagged}
use Rattle.fork_join.proofs.listing.list_forks.Given as goal

-- the list and what is left of the node
abbrev pub invariant-loop-boxes : goal.invariant-loop-boxes
invariant-loop-boxes l = map open_of l.list.items ++ tagged l.node l.boxes-iterator ≡ map open_of l.fn.list.items ++
    tagged l.node l.forks.entries
