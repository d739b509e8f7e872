use Rattle.std.specs.Prelude.{◌≡◌, map, take}
use Rattle.fork_join.specs.Listed.{open_of}
use Rattle.fork_join.specs.Filling.{emptied}
use Rattle.fork_join.proofs.adding.take_list.Given as goal

abbrev pub invariant-loop-one : goal.invariant-loop-one
invariant-loop-one l = l.table ≡ emptied (map open_of (take l.one-index l.list)) l.fn.table
