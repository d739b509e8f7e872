use Rattle.std.proofs.Common.{length}
use Rattle.joined_entries.proofs.given.+second_given.Given as goal

abbrev pub decreases-second_given : goal.decreases-second_given
decreases-second_given l = length l.list.now
