use Rattle.std.proofs.Common.{length}
use Rattle.joined_needs.proofs.pointers.+pointer_at.Given as goal

abbrev pub decreases-pointer_at : goal.decreases-pointer_at
decreases-pointer_at l = length l.list.now
