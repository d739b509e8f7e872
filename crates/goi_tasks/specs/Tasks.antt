-- What is done with the text of one file: the output, the first fault of a text with which it can't be done, and the status with which
-- it ends. The text is that of a program, or the listing of a program's net.
use Rattle.std.specs.Prelude.{◌≡◌, ℕ, List, []}
use Rattle.pcf_values.specs.Most.{most_program_bytes}
use Rattle.pcf_values.specs.Terms.{TermTree}
use Rattle.net_build.specs.NetOf.{net_of}
use Rattle.net_text.specs.Accepted.{ListsProgram}
use Rattle.net_text.specs.Limits.{most_text_bytes}
use Rattle.net_text.specs.Listing.{listing}
use Rattle.step_text.specs.Courses.{course_value}
use Rattle.program_runs.specs.Programs.{any_type, number, OfProgram, wanted_by_run}
use Rattle.program_runs.specs.Runs.{net_run}
use Rattle.program_runs.specs.declared.calling.Calling.TheVariants.{ByName}
use Rattle.goi_reports.specs.Reports.{check_report}
use Rattle.goi_tasks.specs.declared.fault.Fault.{Fault}
use Rattle.goi_jobs.specs.declared.task.Task.{Task}
use Rattle.goi_jobs.specs.declared.task.Task.TheVariants.{Run, Check, ShowNet, RunNet, Trace, Span, Steps}
use Rattle.goi_tasks.specs.NetFiles.{FaultyListing}
use Rattle.goi_tasks.specs.Outputs.{Output, output}
use Rattle.goi_tasks.specs.Programs.{FaultyText}
use Rattle.goi_tasks.specs.Reductions.{ReportsSteps, reduction}
use Rattle.goi_tasks.specs.Replaying.{replay_status}
use Rattle.goi_tasks.specs.Rounds.{ReportsSpan}
use Rattle.goi_tasks.specs.RunReports.{ReportsRun, ReportsTrace, EndsRun}

-- ---- listings

-- the bytes list the net of a program, of whose term this is so
pub record OfListing (bytes : List ℕ) (P : TermTree → Type 0) : Type 0 where
  pub term : TermTree
  pub lists : ListsProgram bytes term
  pub so : P term

-- ---- tasks

-- the output of the task with the text, where so many workers run what is run
abbrev pub ReportsText : ℕ → Task → List ℕ → Output → Type 0
ReportsText workers (Run budget calling shown) bytes o =
    OfProgram (wanted_by_run calling) bytes (λ tree t A. ReportsRun workers budget calling shown t o)
ReportsText workers (Check term) bytes o = OfProgram any_type bytes (λ tree t A. o ≡ output 0 (check_report A term tree) [])
ReportsText workers ShowNet bytes o = OfProgram number bytes (λ tree t A. o ≡ output 0 (listing (net_of t)) [])
ReportsText workers (RunNet budget shown) bytes o = OfListing bytes (λ t. ReportsRun workers budget ByName shown t o)
ReportsText workers (Trace budget calling window) bytes o =
    OfProgram (wanted_by_run calling) bytes (λ tree t A. ReportsTrace workers budget calling window t o)
ReportsText workers (Span budget calling profile schedule) bytes o =
    OfProgram (wanted_by_run calling) bytes (λ tree t A. ReportsSpan budget calling profile schedule t o)
ReportsText workers (Steps budget window) bytes o = OfProgram number bytes (λ tree t A. ReportsSteps budget window tree t o)

-- the first fault of a text with which it can't be done
abbrev pub FaultyFor : Task → List ℕ → Fault → Type 0
FaultyFor (Run budget calling shown) bytes f = FaultyText (wanted_by_run calling) bytes f
FaultyFor (Check term) bytes f = FaultyText any_type bytes f
FaultyFor ShowNet bytes f = FaultyText number bytes f
FaultyFor (RunNet budget shown) bytes f = FaultyListing bytes f
FaultyFor (Trace budget calling window) bytes f = FaultyText (wanted_by_run calling) bytes f
FaultyFor (Span budget calling profile schedule) bytes f = FaultyText (wanted_by_run calling) bytes f
FaultyFor (Steps budget window) bytes f = FaultyText number bytes f

-- it can be done with the text, and ends with this status
abbrev pub EndsText : Task → List ℕ → ℕ → Type 0
EndsText (Run budget calling shown) bytes status =
    OfProgram (wanted_by_run calling) bytes (λ tree t A. EndsRun budget (net_run calling t) status)
EndsText (Check term) bytes status = OfProgram any_type bytes (λ tree t A. status ≡ 0)
EndsText ShowNet bytes status = OfProgram number bytes (λ tree t A. status ≡ 0)
EndsText (RunNet budget shown) bytes status = OfListing bytes (λ t. EndsRun budget (net_of t) status)
EndsText (Trace budget calling window) bytes status =
    OfProgram (wanted_by_run calling) bytes (λ tree t A. EndsRun budget (net_run calling t) status)
EndsText (Span budget calling profile schedule) bytes status =
    OfProgram (wanted_by_run calling) bytes (λ tree t A. EndsRun budget (net_run calling t) status)
EndsText (Steps budget window) bytes status =
    OfProgram number bytes (λ tree t A. status ≡ replay_status (course_value (reduction budget window tree)))

-- how many bytes its text has at the most
abbrev pub most_bytes : Task → ℕ
most_bytes (Run budget calling shown) = most_program_bytes
most_bytes (Check term) = most_program_bytes
most_bytes ShowNet = most_program_bytes
most_bytes (RunNet budget shown) = most_text_bytes
most_bytes (Trace budget calling window) = most_program_bytes
most_bytes (Span budget calling profile schedule) = most_program_bytes
most_bytes (Steps budget window) = most_program_bytes
