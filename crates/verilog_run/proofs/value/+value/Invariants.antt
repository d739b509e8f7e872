use Rattle.std.proofs.Common.{◌+◌, ◌*◌}
use Rattle.verilog_tree.specs.Views.{expr_of}
use Rattle.verilog_tree.proofs.Weights.{expr_weight}
use Rattle.verilog_run.proofs.value.+value.Given as goal

abbrev pub decreases-own : goal.decreases-own
decreases-own l = 8 * expr_weight (expr_of l.e.now) + 1

abbrev pub decreases-joined : goal.decreases-joined
decreases-joined l = 8 * (expr_weight (expr_of l.a.now) + expr_weight (expr_of l.b.now)) + 3

abbrev pub decreases-compared : goal.decreases-compared
decreases-compared l = 8 * (expr_weight (expr_of l.a.now) + expr_weight (expr_of l.b.now)) + 3

abbrev pub decreases-full : goal.decreases-full
decreases-full l = 8 * expr_weight (expr_of l.a.now) + 3

abbrev pub decreases-value : goal.decreases-value
decreases-value l = 8 * expr_weight (expr_of l.e.now)

abbrev pub decreases-bit_told : goal.decreases-bit_told
decreases-bit_told l = 8 * expr_weight (expr_of l.at.now) + 3

abbrev pub decreases-word_told : goal.decreases-word_told
decreases-word_told l = 8 * expr_weight (expr_of l.at.now) + 3

abbrev pub decreases-inverted : goal.decreases-inverted
decreases-inverted l = 8 * expr_weight (expr_of l.a.now) + 3

abbrev pub decreases-negated : goal.decreases-negated
decreases-negated l = 8 * expr_weight (expr_of l.a.now) + 3

abbrev pub decreases-reduced : goal.decreases-reduced
decreases-reduced l = 8 * expr_weight (expr_of l.a.now) + 3

abbrev pub decreases-worked : goal.decreases-worked
decreases-worked l = 8 * (expr_weight (expr_of l.a.now) + expr_weight (expr_of l.b.now)) + 3

abbrev pub decreases-shifted : goal.decreases-shifted
decreases-shifted l = 8 * (expr_weight (expr_of l.a.now) + expr_weight (expr_of l.b.now)) + 3

abbrev pub decreases-connected : goal.decreases-connected
decreases-connected l = 8 * (expr_weight (expr_of l.a.now) + expr_weight (expr_of l.b.now)) + 3

abbrev pub decreases-picked : goal.decreases-picked
decreases-picked l = 8 * (expr_weight (expr_of l.c.now) + (expr_weight (expr_of l.a.now) + expr_weight (expr_of l.b.now))) + 3
