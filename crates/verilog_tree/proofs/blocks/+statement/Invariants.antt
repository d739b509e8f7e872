use Rattle.std.proofs.Common.{◌+◌, ◌*◌}
use Rattle.verilog_tree.specs.Views.{stmt_of, arms_of}
use Rattle.verilog_tree.proofs.Weights.{stmt_weight, arms_weight}
use Rattle.verilog_tree.proofs.blocks.+statement.Given as goal

abbrev pub decreases-push_statement : goal.decreases-push_statement
decreases-push_statement l = 4 * stmt_weight (stmt_of l.s.now)

abbrev pub decreases-push_branch : goal.decreases-push_branch
decreases-push_branch l = 4 * (stmt_weight (stmt_of l.s.now) + stmt_weight (stmt_of l.t.now)) + 3

abbrev pub decreases-push_else : goal.decreases-push_else
decreases-push_else l = 4 * stmt_weight (stmt_of l.s.now) + 1

abbrev pub decreases-push_case : goal.decreases-push_case
decreases-push_case l = 4 * arms_weight (arms_of l.arms.now) + 1

abbrev pub decreases-push_arms : goal.decreases-push_arms
decreases-push_arms l = 4 * arms_weight (arms_of l.arms.now)

abbrev pub decreases-push_arm : goal.decreases-push_arm
decreases-push_arm l = 4 * stmt_weight (stmt_of l.s.now) + 3

abbrev pub decreases-push_block : goal.decreases-push_block
decreases-push_block l = 4 * stmt_weight (stmt_of l.s.now) + 2

abbrev pub decreases-push_long_block : goal.decreases-push_long_block
decreases-push_long_block l = 4 * stmt_weight (stmt_of l.s.now) + 1
