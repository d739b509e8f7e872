use Rattle.std.proofs.Common.{length}
use Rattle.joined_entries.proofs.given.+first_given.Given as goal

abbrev pub decreases-first_given : goal.decreases-first_given
decreases-first_given l = length l.list.now
