use Rattle.std.proofs.Common.{length}
use Rattle.joined_data.proofs.figures.+most.Given as goal

abbrev pub decreases-most : goal.decreases-most
decreases-most l = length l.rows.now
