use Rattle.std.proofs.Common.{◌≡◌, ◌∙◌, List, length, sym, ap, subst, arith}
use Rattle.token_pool.specs.declared.ending.Ended.{Ended}
use Rattle.batch_pool.specs.declared.job.BatchJob.{BatchJob}
use Rattle.batch_pool.specs.Batches.{BatchFits}
use Rattle.batch_pool.specs.AreRuns.{AreRuns}
use Rattle.goi_batches.specs.Telling.{Mark, jobs_of, marks_of, Fit}
use Rattle.goi_batches.proofs.Ends.{batch_fits, few_marks, ends_fit, batch_told}
use Rattle.goi_batches.proofs.report.report_batch.Goals as goal

pub run_batch-ends-requires-after_bounds : goal.run_batch-ends-requires-after_bounds
run_batch-ends-requires-after_bounds g c κs within =
    let j = c.requires.judged in
    subst (λ (js : List BatchJob). BatchFits js c.args.workers) (sym c.in_ok-marks.ensures.jobs)
    (batch_fits j.0 c.args.programs.items c.args.workers j.1 c.requires.few c.requires.workers)

pub tell-requires-clause-few : goal.tell-requires-clause-few
tell-requires-clause-few g c =
    let same : length c.deref.result.now ≡ length (marks_of c.args.programs.items) =
    ap length (c.deref.ensures.value ∙ c.in_ok-marks.ensures.marks) in
    omega (arith, same, few_marks c.args.programs.items, c.requires.few)

pub tell-requires-clause-fit : goal.tell-requires-clause-fit
tell-requires-clause-fit g c =
    let js = c.args.programs.items in
    let workers = c.args.workers in
    let es = c.in_ok-ends.field-0.items in
    let runs : AreRuns (jobs_of js) workers es =
    subst (λ (jobs : List BatchJob). AreRuns jobs workers es) c.in_ok-marks.ensures.jobs c.in_ok-ends.ensures in
    let fit : Fit workers c.deref.result.now es = subst (λ (ms : List Mark). Fit workers ms es)
    (sym (c.deref.ensures.value ∙ c.in_ok-marks.ensures.marks)) (ends_fit js workers es runs) in
    subst (λ (ends : List Ended). Fit workers c.deref.result.now ends) (sym c.deref-2.ensures.value) fit

pub returns : goal.returns
returns g c =
    let workers = c.args.workers in
    batch_told workers c.args.programs.items c.deref.result.now c.in_ok-marks.jobs.items c.deref-2.result.now
    (c.deref.ensures.value ∙ c.in_ok-marks.ensures.marks) c.in_ok-marks.ensures.jobs
    (subst (λ (ends : List Ended). AreRuns c.in_ok-marks.jobs.items workers ends) (sym c.deref-2.ensures.value) c.in_ok-ends.ensures)
    c.tell.result c.tell.ensures.report c.tell.ensures.fits
