use Rattle.std.proofs.Common.{◌+◌, ◌*◌}
use Rattle.verilog_tree.specs.Views.{arms_of, stmt_of}
use Rattle.verilog_tree.proofs.Weights.{stmt_weight, arms_weight}
use Rattle.verilog_run.proofs.edges.+fire.Given as goal

abbrev pub decreases-fire_arms : goal.decreases-fire_arms
decreases-fire_arms l = 8 * arms_weight (arms_of l.arms.now) + 2

abbrev pub decreases-fire : goal.decreases-fire
decreases-fire l = 8 * stmt_weight (stmt_of l.s.now) + 1

abbrev pub decreases-fire_both : goal.decreases-fire_both
decreases-fire_both l = 8 * (stmt_weight (stmt_of l.s.now) + stmt_weight (stmt_of l.t.now)) + 5

abbrev pub decreases-fire_one : goal.decreases-fire_one
decreases-fire_one l = 8 * (stmt_weight (stmt_of l.s.now) + stmt_weight (stmt_of l.t.now)) + 5

abbrev pub decreases-fire_case : goal.decreases-fire_case
decreases-fire_case l = 8 * arms_weight (arms_of l.arms.now) + 5
