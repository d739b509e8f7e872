use Rattle.std.proofs.Common.{length}
use Rattle.joined_asked.proofs.within.+boxes_within.Given as goal

abbrev pub decreases-boxes_within : goal.decreases-boxes_within
decreases-boxes_within l = length l.forks.now
