use Rattle.std.specs.Prelude.{◌≡◌, map, take}
use Rattle.fork_join.specs.Listed.{open_of}
use Rattle.fork_join.specs.Filling.{filled}
use Rattle.fork_join.proofs.adding.put_list.Given as goal

abbrev pub invariant-loop-one : goal.invariant-loop-one
invariant-loop-one l = l.table ≡ filled (map open_of (take l.one-index l.list)) l.fn.table
