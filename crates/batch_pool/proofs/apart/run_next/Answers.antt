use Rattle.std.proofs.Common.{length, refl}
use Rattle.std.proofs.lemmas.Option.{slice_get_read}
use Rattle.batch_pool.proofs.apart.run_next.Goals as goal

pub returns-in_ok-end-in-Some-clause-brings : goal.returns-in_ok-end-in-Some-clause-brings
returns-in_ok-end-in-Some-clause-brings g c =
    let jobs = c.args.jobs.now in
    let found = c.in-Some.ensures.lookup in (
      refl,
      record {
        job = c.in-Some.job.now;
        there = slice_get_read jobs (length jobs) c.args.number c.in-Some.job.now refl found.3.0 found.1;
        run = record { run = c.in_ok-end-in-Some.ensures.run; log = c.in_ok-end-in-Some.ensures.log };
      },
    )
