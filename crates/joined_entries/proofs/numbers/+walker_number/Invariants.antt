use Rattle.std.proofs.Common.{length}
use Rattle.joined_entries.proofs.numbers.+walker_number.Given as goal

abbrev pub decreases-walker_number : goal.decreases-walker_number
decreases-walker_number l = length l.entries.now
