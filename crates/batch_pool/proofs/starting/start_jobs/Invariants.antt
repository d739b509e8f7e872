use Rattle.std.proofs.Common.{◌≡◌, map, take}
use Rattle.batch_pool.specs.Batches.{job_started}
use Rattle.batch_pool.proofs.starting.start_jobs.Given as goal

abbrev pub invariant-loop-job : goal.invariant-loop-job
invariant-loop-job l = l.pools.items ≡ map (job_started l.workers) (take l.job-index l.jobs)
