use Rattle.std.proofs.Common.{length}
use Rattle.joined_data.proofs.lists.+add_origins.Given as goal

abbrev pub decreases-add_origins : goal.decreases-add_origins
decreases-add_origins l = length l.rows.now
