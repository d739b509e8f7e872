use Rattle.std.proofs.Common.{length}
use Rattle.joined_fits.proofs.within.+takes_fork.Given as goal

abbrev pub decreases-takes_fork : goal.decreases-takes_fork
decreases-takes_fork l = length l.list.now
