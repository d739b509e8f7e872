use Rattle.std.proofs.Common.{◌≡◌, ◌++◌, drop}
use Rattle.verilog_run.specs.Entries.{lists_of}
use Rattle.verilog_run.proofs.copies.add_lists.Given as goal

abbrev pub invariant-loop-list : goal.invariant-loop-list
invariant-loop-list l = lists_of l.out.items ++ lists_of (drop l.list-index l.lists) ≡ lists_of l.fn.out.items ++ lists_of l.lists
