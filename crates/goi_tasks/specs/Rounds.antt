-- A run of a program in rounds: what it says of the program, and which report it has.
-- What rounds and the span of a net are stands in `round_laws`, and how wide rounds are in `round_runs`.
use Rattle.std.specs.Prelude.{◌≡◌, ℕ, suc, ◌<◌, ◌≤◌, Bool, List, [], length, Option, None, Some}
use Rattle.pcf_values.specs.declared.val.Val.{Val}
use Rattle.pcf_values.specs.Terms.{TermTree}
use Rattle.net_build.specs.Nets.{NetTree}
use Rattle.adequacy_laws.specs.Questions.{Length, Span}
use Rattle.adequacy_laws.specs.Finished.{Beyond}
use Rattle.round_laws.specs.Rounds.{round_log}
use Rattle.round_runs.specs.Profiles.{profile_of, greatest}
use Rattle.goi_reports.specs.Spans.{span_report}
use Rattle.program_runs.specs.declared.calling.Calling.{Calling}
use Rattle.program_runs.specs.Runs.{meaning, net_run}
use Rattle.goi_tasks.specs.Outputs.{Output}
use Rattle.goi_tasks.specs.Replaying.{replay_status}

-- What an answer, or none, and a number of rounds within a budget of moves say of a program of this meaning and its net. An answer is what
-- the program means, so many rounds are the net's span, and their moves are as many as the net is long. No answer says that the net's
-- length is absent or above the budget, and that one round more would have passed the budget.
abbrev pub TellsSpan : (Val → Type 0) → NetTree → ℕ → Option Val → ℕ → Type 0
TellsSpan means net budget (Some v) k =
    means v × Span net v k × Length net v (length (round_log net k)) × (length (round_log net k) ≤ budget)
TellsSpan means net budget None k =
    Beyond net budget × (length (round_log net k) ≤ budget) × (budget < length (round_log net (suc k)))

-- the report of so many rounds of a net, which come to this answer, or none
abbrev pub rounds_report : Option Val → NetTree → ℕ → Bool → Bool → List ℕ
rounds_report answer net k profile schedule =
    span_report answer k (round_log net k) (profile_of net k) (greatest (profile_of net k)) profile schedule

-- the output of a run in rounds of the net of a program of this meaning
pub record ReportsRounds (means : Val → Type 0) (net : NetTree) (budget : ℕ) (profile schedule : Bool) (o : Output) : Type 0 where
  pub answer : Option Val
  pub rounds : ℕ
  pub tells : TellsSpan means net budget answer rounds
  pub ends : o.status ≡ replay_status answer
  pub report_is : o.report ≡ rounds_report answer net rounds profile schedule
  pub no_notes : o.notes ≡ []

-- the output of a run in rounds of a term, by name or by value
abbrev pub ReportsSpan : ℕ → Calling → Bool → Bool → TermTree → Output → Type 0
ReportsSpan budget calling profile schedule t o = ReportsRounds (meaning calling t) (net_run calling t) budget profile schedule o
