use Rattle.std.proofs.Common.{length}
use Rattle.batch_pool.proofs.running.+run_rest.Given as goal

abbrev pub decreases-run_rest : goal.decreases-run_rest
decreases-run_rest g l = length l.jobs.now
