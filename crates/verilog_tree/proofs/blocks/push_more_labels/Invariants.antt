use Rattle.std.proofs.Common.{◌≡◌, ◌++◌, drop, map}
use Rattle.verilog_tree.specs.Print.{more_labels}
use Rattle.verilog_tree.specs.Views.{expr_of}
use Rattle.verilog_tree.proofs.blocks.push_more_labels.Given as goal

abbrev pub invariant-loop-label : goal.invariant-loop-label
invariant-loop-label l =
    l.text.items ++ more_labels (map expr_of (drop l.label-index l.labels)) ≡ l.fn.text.items ++ more_labels (map expr_of l.labels)
