use Rattle.std.proofs.Common.{length}
use Rattle.joined_entries.proofs.numbers.+add_shapes.Given as goal

abbrev pub decreases-add_shapes : goal.decreases-add_shapes
decreases-add_shapes l = length l.entries.now
