use Rattle.std.proofs.Common.{sym, subst}
use Rattle.std.specs.List.{All}
use Rattle.std.proofs.lemmas.List.Elements.{All-push}
use Rattle.batch_pool.specs.declared.job.BatchJob.{BatchJob}
use Rattle.batch_pool.specs.Batches.{JobFits}
use Rattle.test_core.proofs.jobs.jobs_in.Goals as goal

pub loop-line-preserved : goal.loop-line-preserved
loop-line-preserved c =
    subst (All {X = BatchJob} JobFits) (sym c.in_ok-push.ensures.items)
    (All-push JobFits c.loop-line.jobs.items c.in_ok-job.job c.loop-line.invariant c.in_ok-job.ensures)
