use Rattle.std.proofs.Common.{◌+◌, ◌*◌}
use Rattle.verilog_tree.specs.Views.{expr_of}
use Rattle.verilog_tree.proofs.Weights.{expr_weight}
use Rattle.verilog_run.proofs.widths.+bits.Given as goal

abbrev pub decreases-both_bits : goal.decreases-both_bits
decreases-both_bits l = 2 * (expr_weight (expr_of l.a.now) + expr_weight (expr_of l.b.now)) + 1

abbrev pub decreases-wider_bits : goal.decreases-wider_bits
decreases-wider_bits l = 2 * (expr_weight (expr_of l.a.now) + expr_weight (expr_of l.b.now)) + 1

abbrev pub decreases-bits : goal.decreases-bits
decreases-bits l = 2 * expr_weight (expr_of l.e.now)
