use Rattle.std.proofs.Common.{◌≡◌, ◌++◌, drop, map}
use Rattle.verilog_tree.specs.Print.{parts_text}
use Rattle.verilog_tree.specs.Views.{said_of}
use Rattle.verilog_tree.proofs.blocks.push_remarks.Given as goal

abbrev pub invariant-loop-remark : goal.invariant-loop-remark
invariant-loop-remark l =
    l.text.items ++ parts_text (map said_of (drop l.remark-index l.said)) ≡ l.fn.text.items ++ parts_text (map said_of l.said)
