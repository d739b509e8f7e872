use Rattle.batch_pool.proofs.Asked.{Comes}
use Rattle.batch_pool.proofs.asking.take_first.Given as goal

abbrev pub invariant-loop-job : goal.invariant-loop-job
invariant-loop-job l = Comes l.initial.pools.items l.pools.items l.worker l.job l.over l.passed l.spare
