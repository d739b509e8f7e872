use Rattle.std.proofs.Common.{length}
use Rattle.joined_asked.proofs.within.+forks_within.Given as goal

abbrev pub decreases-forks_within : goal.decreases-forks_within
decreases-forks_within l = length l.forks.now
