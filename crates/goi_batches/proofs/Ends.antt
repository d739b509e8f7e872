-- What is told of the runs of judged programs is what is told of the programs.
use Rattle.std.proofs.Common.{◌≡◌, ◌≤◌, ◌∙◌, ℕ, false, List, [], ◌∷◌, length, Result, Ok, Err, IfOk, OnOk, refl}
use Rattle.std.proofs.Common.{sym, ap, subst, arith}
use Rattle.std.specs.List.{All}
use Rattle.std.proofs.lemmas.List.Elements.{All-nil, All-cons}
use Rattle.program_runs.specs.declared.calling.Calling.TheVariants.{ByName}
use Rattle.token_pool.specs.declared.ending.Ended.{Ended}
use Rattle.batch_pool.specs.declared.job.BatchJob.{BatchJob}
use Rattle.batch_lists.specs.Limits.{most_jobs}
use Rattle.batch_pool.specs.Batches.{JobFits, BatchFits}
use Rattle.batch_pool.specs.AreRuns.{IsRunOf, AreRuns}
use Rattle.goi_reports.specs.Forms.{AnswerFits}
use Rattle.goi_reports.specs.Reports.{run_report}
use Rattle.goi_jobs.specs.Ranges.{IsWorkers, IsBudget}
use Rattle.goi_tasks.specs.Outputs.{output}
use Rattle.goi_tasks.specs.Seen.{output_of}
use Rattle.goi_tasks.specs.declared.report.Report.{Report}
use Rattle.goi_tasks.specs.Replaying.{replay_status}
use Rattle.goi_tasks.specs.RunReports.{ReportsRun}
use Rattle.goi_jobs.specs.Tasks.{nothing_shown}
use Rattle.goi_tasks.specs.Tasks.{ReportsText}
use Rattle.goi_tasks.proofs.RunReports.{reports_run}
use Rattle.goi_tasks.proofs.Texts.{of_net}
use Rattle.goi_batches.specs.declared.judged.Judged.{Judged}
use Rattle.goi_batches.specs.declared.judged.Judged.TheVariants.{Runs, Refused}
use Rattle.goi_batches.specs.Judging.{IsJobOf, AreJudged}
use Rattle.goi_batches.specs.Sections.{Listed, section, plain_run, IsSection, runs, refused}
use Rattle.goi_batches.specs.Sections.{statuses_of, batch_status, batch_report}
use Rattle.goi_batches.specs.Telling.{Mark, jobs_of, marks_of, told_by, Fit, EachFits, end_section, AreSections, ReportsBatch}

-- ---- the jobs can be run

jobs_fit : (ps : List Listed) (js : List Judged) → AreJudged ps js → All JobFits (jobs_of js)
jobs_fit [] [] h = All-nil JobFits
jobs_fit [] (j ∷ js) h = absurd h
jobs_fit (p ∷ ps) [] h = absurd h
jobs_fit (p ∷ ps) (Runs job ∷ js) (h, hs) = All-cons JobFits job (jobs_of js) h.fits (jobs_fit ps js hs)
jobs_fit (p ∷ ps) (Refused line ∷ js) (h, hs) = jobs_fit ps js hs

few_jobs : (js : List Judged) → length (jobs_of js) ≤ length js
few_jobs [] = omega arith
few_jobs (Runs job ∷ js) = let h = few_jobs js in omega (arith, h)
few_jobs (Refused line ∷ js) = let h = few_jobs js in omega (arith, h)

pub few_marks : (js : List Judged) → length (marks_of js) ≡ length js
few_marks [] = refl
few_marks (Runs job ∷ js) = let h = few_marks js in omega (arith, h)
few_marks (Refused line ∷ js) = let h = few_marks js in omega (arith, h)

pub batch_fits : (ps : List Listed) (js : List Judged) (workers : ℕ) → AreJudged ps js → length js ≤ most_jobs → IsWorkers workers →
    BatchFits (jobs_of js) workers
batch_fits ps js workers h few w = record {
  each = jobs_fit ps js h;
  few_jobs = let k = few_jobs js in omega (arith, k, few);
  some_workers = w.0;
  few_workers = w.1;
}

-- ---- each program that runs has its end

pub ends_fit : (js : List Judged) (workers : ℕ) (es : List Ended) → AreRuns (jobs_of js) workers es → Fit workers (marks_of js) es
ends_fit [] workers es h = tt
ends_fit (Refused line ∷ js) workers es h = (tt, ends_fit js workers es h)
ends_fit (Runs job ∷ js) workers [] h = absurd h
ends_fit (Runs job ∷ js) workers (e ∷ es) (h, hs) = (h.run.booked, ends_fit js workers es hs)

-- ---- and what is told of it is right

module _ (workers : ℕ) where
  job_section : (p : Listed) (job : BatchJob) (e : Ended) → IsJobOf p job → IsRunOf job workers e → AnswerFits e.answer →
      IsSection workers p (end_section workers e)
  job_section p job e h r fits =
      let b = h.fits in
      let budget : IsBudget job.budget = (b.some_moves, omega (arith, b.few_moves)) in
      let o = output (replay_status e.answer) (run_report e.answer e.log.entries workers false false) [] in
      let one : ReportsText workers (plain_run job.budget) p.bytes o =
      of_net ByName p.bytes job.net (λ t. ReportsRun workers job.budget ByName nothing_shown t o) h.net
      (reports_run job.net workers job.budget budget e.answer e.log.entries r.run r.alone nothing_shown [] refl o fits refl refl refl
      ByName) in
      runs o (subst (λ (k : ℕ). ReportsText workers (plain_run k) p.bytes o) h.budget one)

  sections_told : (ps : List Listed) (js : List Judged) (es : List Ended) → AreJudged ps js → AreRuns (jobs_of js) workers es →
      EachFits (marks_of js) es → AreSections workers ps (told_by workers (marks_of js) es)
  sections_told [] [] es h r fits = tt
  sections_told [] (j ∷ js) es h r fits = absurd h
  sections_told (p ∷ ps) [] es h r fits = absurd h
  sections_told (p ∷ ps) (Runs job ∷ js) [] h r fits = absurd r
  sections_told (p ∷ ps) (Runs job ∷ js) (e ∷ es) (h, hs) (r, rs) (fit, fits) =
      (job_section p job e h r fit, sections_told ps js es hs rs fits)
  sections_told (p ∷ ps) (Refused line ∷ js) es ((f, faulty, is), hs) r (fit, fits) =
      (subst (λ (l : List ℕ). IsSection workers p (section 1 l)) (sym is) (refused f faulty), sections_told ps js es hs r fits)

  -- so the report on them is right
  pub batch_told : {E : Type 0} (js : List Judged) (ms : List Mark) (jobs : List BatchJob) (es : List Ended) → ms ≡ marks_of js →
      jobs ≡ jobs_of js → AreRuns jobs workers es → (r : Result Report E) →
      IfOk r (λ v. output_of v ≡ output (batch_status (statuses_of (told_by workers ms es))) (batch_report (told_by workers ms es)) []) →
      OnOk r (EachFits ms es) → IfOk r (λ v. (ps : List Listed) → AreJudged ps js → ReportsBatch workers ps (output_of v))
  batch_told js ms jobs es same also run (Err e) h fits = tt
  batch_told js ms jobs es same also run (Ok v) h fits = λ ps judged. record {
    sections = told_by workers (marks_of js) es;
    are = sections_told ps js es judged (subst (λ (k : List BatchJob). AreRuns k workers es) also run)
        (subst (λ (k : List Mark). EachFits k es) same fits);
    output_is =
        h
        ∙ ap (λ (k : List Mark). output (batch_status (statuses_of (told_by workers k es))) (batch_report (told_by workers k es)) [])
        same;
  }
