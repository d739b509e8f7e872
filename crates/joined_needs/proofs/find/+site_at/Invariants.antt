use Rattle.std.proofs.Common.{length}
use Rattle.joined_needs.proofs.find.+site_at.Given as goal

abbrev pub decreases-site_at : goal.decreases-site_at
decreases-site_at l = length l.rows.now
