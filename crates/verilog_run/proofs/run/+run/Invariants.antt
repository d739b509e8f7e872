use Rattle.std.proofs.Common.{◌+◌, ◌*◌}
use Rattle.verilog_tree.specs.Views.{arms_of, stmt_of}
use Rattle.verilog_tree.proofs.Weights.{stmt_weight, arms_weight}
use Rattle.verilog_run.proofs.run.+run.Given as goal

abbrev pub decreases-run_arms : goal.decreases-run_arms
decreases-run_arms l = 8 * arms_weight (arms_of l.arms.now) + 2

abbrev pub decreases-run : goal.decreases-run
decreases-run l = 8 * stmt_weight (stmt_of l.s.now) + 1

abbrev pub decreases-run_both : goal.decreases-run_both
decreases-run_both l = 8 * (stmt_weight (stmt_of l.s.now) + stmt_weight (stmt_of l.t.now)) + 5

abbrev pub decreases-run_one : goal.decreases-run_one
decreases-run_one l = 8 * (stmt_weight (stmt_of l.s.now) + stmt_weight (stmt_of l.t.now)) + 5

abbrev pub decreases-run_case : goal.decreases-run_case
decreases-run_case l = 8 * arms_weight (arms_of l.arms.now) + 5
