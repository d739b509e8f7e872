use Rattle.std.proofs.Common.{length}
use Rattle.joined_fits.proofs.within.+sources_within.Given as goal

abbrev pub decreases-sources_within : goal.decreases-sources_within
decreases-sources_within l = length l.list.now
