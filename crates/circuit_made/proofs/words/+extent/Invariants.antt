use Rattle.std.proofs.Common.{◌+◌, ◌*◌}
use Rattle.verilog_tree.specs.Views.{size_of}
use Rattle.verilog_tree.proofs.Weights.{size_weight}
use Rattle.circuit_made.proofs.words.+extent.Given as goal

abbrev pub decreases-push_extent : goal.decreases-push_extent
decreases-push_extent l = 2 * size_weight (size_of l.extent.now)

abbrev pub decreases-push_both : goal.decreases-push_both
decreases-push_both l = 2 * (size_weight (size_of l.a.now) + size_weight (size_of l.b.now)) + 1
