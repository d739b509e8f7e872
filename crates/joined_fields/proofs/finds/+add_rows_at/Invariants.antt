use Rattle.std.proofs.Common.{length}
use Rattle.joined_fields.proofs.finds.+add_rows_at.Given as goal

abbrev pub decreases-add_rows_at : goal.decreases-add_rows_at
decreases-add_rows_at l = length l.rows.now
