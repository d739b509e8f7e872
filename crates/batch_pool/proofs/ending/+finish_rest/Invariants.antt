use Rattle.std.proofs.Common.{length}
use Rattle.batch_pool.proofs.ending.+finish_rest.Given as goal

abbrev pub decreases-finish_rest : goal.decreases-finish_rest
decreases-finish_rest l = length l.jobs.now
