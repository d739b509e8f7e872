use Rattle.std.proofs.Common.{length}
use Rattle.joined_entries.proofs.values.+forks_new.Given as goal

abbrev pub decreases-forks_new : goal.decreases-forks_new
decreases-forks_new l = length l.forks.now
