use Rattle.std.proofs.Common.{◌≡◌, None, replicate}
use Rattle.batch_pool.proofs.apart.no_ends.Given as goal

abbrev pub invariant-loop-job : goal.invariant-loop-job
invariant-loop-job l = l.places.items ≡ replicate l._job-index None
