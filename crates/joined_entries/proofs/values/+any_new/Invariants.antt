use Rattle.std.proofs.Common.{length}
use Rattle.joined_entries.proofs.values.+any_new.Given as goal

abbrev pub decreases-any_new : goal.decreases-any_new
decreases-any_new l = length l.terms.now
