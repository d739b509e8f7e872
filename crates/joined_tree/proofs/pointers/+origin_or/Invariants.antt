use Rattle.std.proofs.Common.{length}
use Rattle.joined_tree.proofs.pointers.+origin_or.Given as goal

abbrev pub decreases-origin_or : goal.decreases-origin_or
decreases-origin_or l = length l.rest.now
