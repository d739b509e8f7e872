use Rattle.std.specs.List.{All}
use Rattle.batch_pool.specs.Batches.{JobFits}
use Rattle.test_core.proofs.jobs.jobs_in.Given as goal

abbrev pub invariant-loop-line : goal.invariant-loop-line
invariant-loop-line l = All JobFits l.jobs.items
