use Rattle.std.proofs.Common.{length, Option, IfOk, refl, sym, subst, rules}
use Rattle.std.proofs.lemmas.Option.{slice_get_read}
use Rattle.batch_pool.specs.declared.job.BatchJob.{BatchJob}
use Rattle.batch_pool.specs.Benches.{MakesOn}
use Rattle.batch_pool.proofs.bench.work_on.Goals as goal

pub returns-in-Some : goal.returns-in-Some
returns-in-Some c =
    let jobs = c.args.jobs.now in
    let found = c.in-Some.ensures.lookup in
    subst (λ (job : Option BatchJob). IfOk c.walk.result (MakesOn job c.args.piece))
    (sym (slice_get_read jobs (length jobs) c.args.job c.in-Some.job.now refl found.3.0 found.1)) (search rules)
