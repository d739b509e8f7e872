use Rattle.std.proofs.Common.{length}
use Rattle.joined_check.proofs.begins.+sorts_are.Given as goal

abbrev pub decreases-sorts_are : goal.decreases-sorts_are
decreases-sorts_are l = length l.work.now
