use Rattle.std.proofs.Common.{◌≡◌, ◌++◌, drop, map}
use Rattle.verilog_tree.specs.Print.{items_text}
use Rattle.verilog_tree.specs.Views.{item_of}
use Rattle.verilog_tree.proofs.items.push_items.Given as goal

abbrev pub invariant-loop-item : goal.invariant-loop-item
invariant-loop-item l =
    l.text.items ++ items_text (map item_of (drop l.item-index l.items)) ≡ l.fn.text.items ++ items_text (map item_of l.items)
