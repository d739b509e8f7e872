use Rattle.std.proofs.Common.{length}
use Rattle.joined_needs.proofs.find.+is_waited.Given as goal

abbrev pub decreases-is_waited : goal.decreases-is_waited
decreases-is_waited l = length l.rows.now
