use Rattle.std.proofs.Common.{◌≡◌, ◌++◌, drop, map}
use Rattle.verilog_tree.specs.Print.{more_ports}
use Rattle.verilog_tree.specs.Views.{item_of}
use Rattle.circuit_made.proofs.text.push_more.Given as goal

abbrev pub invariant-loop-item : goal.invariant-loop-item
invariant-loop-item l =
    l.text.items ++ more_ports (map item_of (drop l.item-index l.items)) ≡ l.fn.text.items ++ more_ports (map item_of l.items)
