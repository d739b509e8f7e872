use Rattle.std.proofs.Common.{length}
use Rattle.joined_entries.proofs.values.+marks_new.Given as goal

abbrev pub decreases-marks_new : goal.decreases-marks_new
decreases-marks_new l = length l.marks.now
