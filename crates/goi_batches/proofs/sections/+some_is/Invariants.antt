use Rattle.std.proofs.Common.{length}
use Rattle.goi_batches.proofs.sections.+some_is.Given as goal

abbrev pub decreases-some_is : goal.decreases-some_is
decreases-some_is l = length l.statuses.now
