use Rattle.batch_pool.proofs.Ends.{ends_as}
use Rattle.batch_pool.proofs.ending.finish_job.Goals as goal

pub returns-in-Some-clause-ends : goal.returns-in-Some-clause-ends
returns-in-Some-clause-ends c =
    ends_as c.args.job.now c.args.workers c.in-Some.pool c.finish.result c.args.pool c.in-Some.is c.finish.ensures.same
    c.finish.ensures.other
