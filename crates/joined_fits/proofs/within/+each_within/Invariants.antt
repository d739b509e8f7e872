use Rattle.std.proofs.Common.{length}
use Rattle.joined_fits.proofs.within.+each_within.Given as goal

abbrev pub decreases-each_within : goal.decreases-each_within
decreases-each_within l = length l.rows.now
