-- A run of a program: which report it has, and with which status it ends.
-- What a run is and what it says of the program stands in `program_runs`.
use Rattle.std.specs.Prelude.{◌≡◌, ◌⊎◌, ℕ, ◌≤◌, ◌++◌, false, List, [], length, Option}
use Rattle.pcf_values.specs.declared.val.Val.{Val}
use Rattle.pcf_values.specs.Terms.{TermTree, size}
use Rattle.cbn_meaning.specs.Meaning.{Means}
use Rattle.net_build.specs.Nets.{NetTree}
use Rattle.net_build.specs.NetOf.{net_of}
use Rattle.adequacy_laws.specs.Finished.{Within, Beyond}
use Rattle.schedule_log.specs.declared.entry.Entry.{Entry}
use Rattle.goi_reports.specs.Reports.{run_report, demo_report}
use Rattle.program_runs.specs.declared.calling.Calling.{Calling}
use Rattle.program_runs.specs.Runs.{meaning, net_run, IsProgramRun}
use Rattle.walk_text.specs.Traces.{trace_text}
use Rattle.goi_jobs.specs.declared.window.Window.{Window}
use Rattle.demo_text.specs.Demo.{demo_term}
use Rattle.goi_jobs.specs.declared.shown.Shown.{Shown}
use Rattle.goi_tasks.specs.Notes.{NotesOf}
use Rattle.goi_tasks.specs.Outputs.{Output}
use Rattle.goi_tasks.specs.Refusals.{most_line}
use Rattle.goi_tasks.specs.Replaying.{replay_status}

-- how many moves the run of a generated program is allowed
abbrev pub demo_budget : ℕ
demo_budget = 1000000

-- the output of a run of the net of a program of this meaning; its report is short where neither schedule nor tally is asked for
pub record ReportsNet (means : Val → Type 0) (net : NetTree) (workers budget : ℕ) (shown : Shown) (o : Output) : Type 0 where
  pub answer : Option Val
  pub log : List Entry
  pub run : IsProgramRun means net workers budget answer log
  pub ends : o.status ≡ replay_status answer
  pub report_is : o.report ≡ run_report answer log workers shown.schedule shown.tally
  pub notes : NotesOf shown.progress (length log) o.notes
  pub short : shown.schedule ≡ false → shown.tally ≡ false → length o.report ≤ most_line

-- The output of a run of the net of a program of this meaning whose walk is told: the two lines of a run, and behind them this part of
-- the trace of that very run's log.
pub record ReportsWalk (means : Val → Type 0) (net : NetTree) (workers budget : ℕ) (window : Window) (o : Output) : Type 0 where
  pub answer : Option Val
  pub log : List Entry
  pub run : IsProgramRun means net workers budget answer log
  pub ends : o.status ≡ replay_status answer
  pub report_is : o.report ≡ run_report answer log workers false false ++ trace_text net log window.from window.most
  pub no_notes : o.notes ≡ []

-- the output of a run of a term, by name or by value
abbrev pub ReportsRun : ℕ → ℕ → Calling → Shown → TermTree → Output → Type 0
ReportsRun workers budget calling shown t o = ReportsNet (meaning calling t) (net_run calling t) workers budget shown o

-- the output of a run of a term whose walk is told, by name or by value
abbrev pub ReportsTrace : ℕ → ℕ → Calling → Window → TermTree → Output → Type 0
ReportsTrace workers budget calling window t o = ReportsWalk (meaning calling t) (net_run calling t) workers budget window o

-- the output of a run of the generated program of a number
pub record ReportsDemo (n workers : ℕ) (o : Output) : Type 0 where
  pub answer : Option Val
  pub log : List Entry
  pub run : IsProgramRun (Means (demo_term n)) (net_of (demo_term n)) workers demo_budget answer log
  pub ends : o.status ≡ replay_status answer
  pub report_is : o.report ≡ demo_report n (size (demo_term n)) answer (length log)
  pub no_notes : o.notes ≡ []

-- with which status a run of the net ends: 0 where the net's length is within the budget, and 5 where it is absent or above it
abbrev pub EndsRun : ℕ → NetTree → ℕ → Type 0
EndsRun budget net status = ((status ≡ 0) × ((value : Val) × Within net budget value)) ⊎ ((status ≡ 5) × Beyond net budget)
