use Rattle.std.proofs.Common.{length}
use Rattle.joined_entries.proofs.numbers.+walker_site.Given as goal

abbrev pub decreases-walker_site : goal.decreases-walker_site
decreases-walker_site l = length l.sites.now
