use Rattle.verilog_tree.specs.Views.{arms_of}
use Rattle.verilog_tree.proofs.Weights.{arms_weight}
use Rattle.verilog_run.proofs.widths.+widest_arm.Given as goal

abbrev pub decreases-widest_arm : goal.decreases-widest_arm
decreases-widest_arm l = arms_weight (arms_of l.arms.now)
