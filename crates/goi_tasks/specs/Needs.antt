-- What a program's circuit needs, and the run with the newest question first: what each says of the program, and which report it has.
-- What it is that a circuit needs so many cells and forks stands in `circuit_meaning`. Where a circuit has no row for what the run meets,
-- just that is told beside the program's answer. The run with the newest question first is one token's at a time, in the order in which a
-- circuit moves; what it is stands in `newest_runs`.
use Rattle.std.specs.Prelude.{◌≡◌, ℕ, true, false, List, [], length, Option}
use Rattle.pcf_values.specs.declared.val.Val.{Val}
use Rattle.pcf_values.specs.Terms.{TermTree}
use Rattle.cbn_meaning.specs.Meaning.{Means}
use Rattle.net_build.specs.Nets.{NetTree}
use Rattle.net_build.specs.NetOf.{net_of}
use Rattle.newest_runs.specs.Order.{newest_first}
use Rattle.circuit_meaning.specs.Counts.{Counts}
use Rattle.joined_needs.specs.declared.needs.Ending.{Ending}
use Rattle.joined_needs.specs.declared.needs.Ending.TheVariants.{Answered, NoRow, Beyond}
use Rattle.joined_needs.specs.declared.needs.Needs.{Needs}
use Rattle.schedule_log.specs.Logs.{by}
use Rattle.program_runs.specs.Runs.{Tells}
use Rattle.goi_reports.specs.Needs.{needs_report, no_row_report}
use Rattle.goi_reports.specs.Reports.{run_report}
use Rattle.goi_tasks.specs.Outputs.{Output}
use Rattle.goi_tasks.specs.Replaying.{replay_status}

-- the report of a program's run, with the counts of its circuit's, which ends so
abbrev pub counts_text : Option Val → (moves : ℕ) → Needs → Ending → List ℕ
counts_text answer moves n (Answered v) = needs_report answer moves n.cells n.forks n.cycles
counts_text answer moves n NoRow = no_row_report answer moves
counts_text answer moves n Beyond = needs_report answer moves n.cells n.forks n.cycles

-- the output of what a program's circuit needs within a budget of moves
pub record ReportsNeeds (budget : ℕ) (t : TermTree) (o : Output) : Type 0 where
  pub answer : Option Val
  pub moves : ℕ
  pub tells : Tells (Means t) (net_of t) budget answer moves
  pub counts : Needs
  pub counted : Counts t [] budget counts
  pub ends : o.status ≡ replay_status answer
  pub report_is : o.report ≡ counts_text answer moves counts counts.ending
  pub no_notes : o.notes ≡ []

-- the report of a net's run with the newest question first within a budget, which comes to this answer, or none: as that of a run with its
-- schedule
abbrev pub schedule_report : Option Val → NetTree → ℕ → List ℕ
schedule_report answer net budget = run_report answer (by 0 (newest_first net budget)) 1 true false

-- the output of the schedule by which a program's circuit moves within a budget
pub record ReportsSchedule (budget : ℕ) (t : TermTree) (o : Output) : Type 0 where
  pub answer : Option Val
  pub tells : Tells (Means t) (net_of t) budget answer (length (newest_first (net_of t) budget))
  pub ends : o.status ≡ replay_status answer
  pub report_is : o.report ≡ schedule_report answer (net_of t) budget
  pub no_notes : o.notes ≡ []
