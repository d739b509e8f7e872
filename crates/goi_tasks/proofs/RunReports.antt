-- The report that is made of a run of a program's net.
use Rattle.std.proofs.Common.{◌≡◌, ℕ, ◌<◌, ◌≤◌, ◌^◌, Bool, true, false, List, [], ◌++◌, length, Option, Result, Ok, Err, IfOk}
use Rattle.std.proofs.Common.{refl, sym, ap, ◌∙◌, subst, arith}
use Rattle.pcf_values.specs.declared.val.Val.{Val}
use Rattle.pcf_values.specs.Most.{most_moves}
use Rattle.pcf_values.specs.Terms.{TermTree, size}
use Rattle.cbn_meaning.specs.Meaning.{Means}
use Rattle.net_build.specs.Nets.{NetTree}
use Rattle.net_build.specs.NetOf.{net_of}
use Rattle.interleave_laws.proofs.MapLaws.{leads_seen}
use Rattle.schedule_log.specs.declared.entry.Entry.{Entry}
use Rattle.schedule_log.specs.Logs.{tickets_in_log}
use Rattle.schedule_log.proofs.Taken.{tickets_all}
use Rattle.demo_text.specs.Demo.{demo_term}
use Rattle.goi_reports.specs.Forms.{AnswerFits}
use Rattle.goi_reports.specs.Reports.{run_report, demo_report}
use Rattle.goi_jobs.specs.Ranges.{IsBudget}
use Rattle.net_runs.specs.IsRun.{IsRun, IsFirstWorkers}
use Rattle.program_runs.specs.declared.calling.Calling.{Calling}
use Rattle.program_runs.specs.Nets.{RunsAs}
use Rattle.program_runs.specs.RunsText.{RunsText}
use Rattle.program_runs.specs.Runs.{Tells, meaning, net_run, IsProgramRun}
use Rattle.program_runs.proofs.Telling.{run_of}
use Rattle.walk_text.specs.Traces.{trace_text}
use Rattle.walk_text.specs.Whole.{LeadsSomewhere}
use Rattle.goi_jobs.specs.declared.window.Window.{Window}
use Rattle.goi_tasks.specs.declared.report.Report.{Report}
use Rattle.goi_jobs.specs.declared.shown.Shown.{Shown}
use Rattle.goi_tasks.specs.Notes.{NotesOf, progress_lines}
use Rattle.goi_tasks.specs.Parts.{NumbersOf}
use Rattle.goi_tasks.specs.Outputs.{Output, output}
use Rattle.goi_tasks.specs.Seen.{output_of}
use Rattle.goi_tasks.specs.Replaying.{replay_status}
use Rattle.goi_tasks.specs.RunReports.{demo_budget, ReportsRun, ReportsTrace, ReportsDemo}
use Rattle.goi_tasks.specs.Told.{TellsText}
use Rattle.goi_tasks.proofs.Brief.{brief}

-- a run has no more moves than 32 bits count
few : (net : NetTree) (workers budget : ℕ) (answer : Option Val) (log : List Entry) → IsBudget budget →
    IsRun net workers budget answer log → length log < 2 ^ 32
few net workers budget answer log b r = let h = tickets_all log in omega (arith, h, r.finished.0, b.1)

-- the notes are the lines of what was read
notes_of : (progress : Bool) (moves : ℕ) (numbers : List ℕ) → NumbersOf progress moves numbers →
    NotesOf progress moves (progress_lines numbers)
notes_of false moves numbers h = ap progress_lines h
notes_of true moves numbers h = (numbers, h, refl)

module _ (net : NetTree) (workers budget : ℕ) (within : IsBudget budget) (answer : Option Val) (log : List Entry)
    (run : IsRun net workers budget answer log) (alone : workers ≡ 1 → IsFirstWorkers net budget log) where
  -- the output of a run of a net is that of a run of each term that runs on it
  pub reports_run : (shown : Shown) (numbers : List ℕ) → NumbersOf shown.progress (length log) numbers → (o : Output) → AnswerFits answer →
      o.report ≡ run_report answer log workers shown.schedule shown.tally → o.notes ≡ progress_lines numbers →
      o.status ≡ replay_status answer → (calling : Calling) (t : TermTree) → RunsAs calling t net →
      ReportsRun workers budget calling shown t o
  reports_run shown numbers read o fits text notes status calling t is = record {
    answer = answer;
    log = log;
    run = run_of calling t net is workers budget answer log run alone;
    ends = status;
    report_is = text;
    notes =
        subst (λ (ns : List ℕ). NotesOf shown.progress (length log) ns) (sym notes)
        (notes_of shown.progress (length log) numbers read);
    short = λ f g.
        brief answer log workers shown.schedule shown.tally o.report f g text fits (few net workers budget answer log within run);
  }

  pub reported : {E : Type 0} (shown : Shown) (numbers : List ℕ) → NumbersOf shown.progress (length log) numbers → (r : Result Report E) →
      IfOk r (λ v. AnswerFits answer) → IfOk r (λ v. v.text.items ≡ run_report answer log workers shown.schedule shown.tally) →
      IfOk r (λ v. v.notes.items ≡ progress_lines numbers) → IfOk r (λ v. v.status ≡ replay_status answer) →
      IfOk r (λ v. (calling : Calling) (t : TermTree) → RunsAs calling t net → ReportsRun workers budget calling shown t (output_of v))
  reported shown numbers read (Ok v) fits text notes status = reports_run shown numbers read (output_of v) fits text notes status
  reported shown numbers read (Err e) fits text notes status = fits

  -- and so is the output of one whose walk is told
  pub reports_trace : (window : Window) (status : ℕ) → status ≡ replay_status answer → (text : List ℕ) →
      text ≡ run_report answer log workers false false ++ trace_text net log window.from window.most →
      (o : Output) → o ≡ output status text [] → (calling : Calling) (t : TermTree) → RunsAs calling t net →
      ReportsTrace workers budget calling window t o
  reports_trace window status e text lines o told calling t is =
      let first = run_report answer log workers false false in
      record {
        answer = answer;
        log = log;
        run = run_of calling t net is workers budget answer log run alone;
        ends = ap (λ (x : Output). x.status) told ∙ e;
        report_is =
            ap (λ (x : Output). x.report) told ∙ lines
            ∙ ap (λ (n : NetTree). first ++ trace_text n log window.from window.most) is.net_is;
        no_notes = ap (λ (x : Output). x.notes) told;
      }

-- what a run of a text's program says, it says in numbers too
pub tells_text : (calling : Calling) (workers budget : ℕ) (bytes : List ℕ) (answer : Option Val) (log : List Entry) (moves : ℕ) →
    RunsText calling workers budget bytes answer log → moves ≡ length log → TellsText calling budget bytes answer moves
tells_text calling workers budget bytes answer log moves h e = record {
  tree = h.tree;
  term = h.term;
  type = h.type;
  is = h.is;
  so = subst (λ (n : ℕ). Tells (meaning calling h.term) (net_run calling h.term) budget answer n) (sym e) h.so.tells;
}

-- a run has no more moves than a log may have
pub run_few : (net : NetTree) (workers budget : ℕ) (answer : Option Val) (log : List Entry) → IsBudget budget →
    IsRun net workers budget answer log → length log ≤ most_moves
run_few net workers budget answer log b r = let h = tickets_all log in omega (arith, h, r.finished.0, b.1)

-- a run leads somewhere, over finite maps too
pub run_leads : (net : NetTree) (workers budget : ℕ) (answer : Option Val) (log : List Entry) → IsRun net workers budget answer log →
    LeadsSomewhere net log
run_leads net workers budget answer log r =
    let (S, led, _) = leads_seen net (tickets_in_log log) r.state r.led in
    (S, led)

-- the output of the generated program's run
pub reports_demo : (n workers : ℕ) (answer : Option Val) (log : List Entry) →
    IsProgramRun (Means (demo_term n)) (net_of (demo_term n)) workers demo_budget answer log → (status : ℕ) →
    status ≡ replay_status answer →
    (nodes moves : ℕ) → nodes ≡ size (demo_term n) → moves ≡ length log → (text : List ℕ) → text ≡ demo_report n nodes answer moves →
    (o : Output) → o ≡ output status text [] → ReportsDemo n workers o
reports_demo n workers answer log r status e nodes moves a b text is o same = record {
  answer = answer;
  log = log;
  run = r;
  ends = ap (λ (x : Output). x.status) same ∙ e;
  report_is =
      ap (λ (x : Output). x.report) same ∙ is ∙ ap (λ (k : ℕ). demo_report n k answer moves) a
      ∙ ap (λ (k : ℕ). demo_report n (size (demo_term n)) answer k) b;
  no_notes = ap (λ (x : Output). x.notes) same;
}
