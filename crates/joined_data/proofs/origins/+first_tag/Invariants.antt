use Rattle.std.proofs.Common.{length}
use Rattle.joined_data.proofs.origins.+first_tag.Given as goal

abbrev pub decreases-first_tag : goal.decreases-first_tag
decreases-first_tag l = length l.rows.now
