use Rattle.std.proofs.Common.{length}
use Rattle.joined_entries.proofs.numbers.+marks_are.Given as goal

abbrev pub decreases-marks_are : goal.decreases-marks_are
decreases-marks_are l = length l.sorts.now
