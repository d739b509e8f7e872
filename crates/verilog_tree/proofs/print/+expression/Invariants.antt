use Rattle.std.proofs.Common.{◌+◌, ◌*◌}
use Rattle.verilog_tree.specs.Views.{expr_of}
use Rattle.verilog_tree.proofs.Weights.{expr_weight}
use Rattle.verilog_tree.proofs.print.+expression.Given as goal

abbrev pub decreases-push_expression : goal.decreases-push_expression
decreases-push_expression l = 2 * expr_weight (expr_of l.e.now)

abbrev pub decreases-push_at : goal.decreases-push_at
decreases-push_at l = 2 * expr_weight (expr_of l.place.now) + 1

abbrev pub decreases-push_one : goal.decreases-push_one
decreases-push_one l = 2 * expr_weight (expr_of l.a.now) + 1

abbrev pub decreases-push_cat : goal.decreases-push_cat
decreases-push_cat l = 2 * (expr_weight (expr_of l.a.now) + expr_weight (expr_of l.b.now)) + 1

abbrev pub decreases-push_two : goal.decreases-push_two
decreases-push_two l = 2 * (expr_weight (expr_of l.a.now) + expr_weight (expr_of l.b.now)) + 1

abbrev pub decreases-push_pick : goal.decreases-push_pick
decreases-push_pick l =
    2 * (expr_weight (expr_of l.c.now) + (expr_weight (expr_of l.a.now) + expr_weight (expr_of l.b.now))) + 1
