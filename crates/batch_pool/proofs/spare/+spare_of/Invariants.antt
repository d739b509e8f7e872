use Rattle.std.proofs.Common.{length}
use Rattle.batch_pool.proofs.spare.+spare_of.Given as goal

abbrev pub decreases-spare_of : goal.decreases-spare_of
decreases-spare_of l = length l.pools.now
