use Rattle.std.proofs.Common.{length}
use Rattle.joined_entries.proofs.numbers.+key_number.Given as goal

abbrev pub decreases-key_number : goal.decreases-key_number
decreases-key_number l = length l.entries.now
