use Rattle.std.proofs.Common.{length}
use Rattle.joined_needs.proofs.pointers.+add_pointers.Given as goal

abbrev pub decreases-add_pointers : goal.decreases-add_pointers
decreases-add_pointers l = length l.list.now
