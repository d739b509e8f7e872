use Rattle.std.proofs.Common.{length}
use Rattle.joined_entries.proofs.numbers.+site_at.Given as goal

abbrev pub decreases-site_at : goal.decreases-site_at
decreases-site_at l = length l.sites.now
