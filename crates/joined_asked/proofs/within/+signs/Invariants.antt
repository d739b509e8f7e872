use Rattle.std.proofs.Common.{length}
use Rattle.joined_asked.proofs.within.+signs.Given as goal

abbrev pub decreases-signs : goal.decreases-signs
decreases-signs l = length l.work.now
