use Rattle.std.proofs.Common.{length}
use Rattle.goi_batches.proofs.sections.+push_sections.Given as goal

abbrev pub decreases-push_sections : goal.decreases-push_sections
decreases-push_sections l = length l.marks.now
