use Rattle.std.proofs.Common.{length}
use Rattle.joined_fields.proofs.finds.+tag_arms.Given as goal

abbrev pub decreases-tag_arms : goal.decreases-tag_arms
decreases-tag_arms l = length l.rows.now
