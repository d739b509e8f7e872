-- What is done with the text of one file: what is shown of a run, which tasks tell their progress, and the ranges of their numbers.
use Rattle.std.specs.Prelude.{Bool, false}
use Rattle.goi_jobs.specs.Ranges.{IsBudget, IsWindow, IsPart}
use Rattle.goi_jobs.specs.declared.shown.Shown.{Shown}
use Rattle.goi_jobs.specs.declared.task.Task.{Task}
use Rattle.goi_jobs.specs.declared.task.Task.TheVariants.{Run, Check, ShowNet, RunNet, Trace, Span, Steps}

-- these are shown, and nothing is
abbrev pub shown : Bool → Bool → Bool → Shown
shown schedule tally progress = record { schedule = schedule; tally = tally; progress = progress }

abbrev pub nothing_shown : Shown
nothing_shown = shown false false false

-- a task tells the progress of its run
abbrev pub progress_of : Task → Bool
progress_of (Run budget calling shown) = shown.progress
progress_of (RunNet budget shown) = shown.progress
progress_of _ = false

-- the numbers of a task are in the ranges in which it can be done
abbrev pub IsWithin : Task → Type 0
IsWithin (Run budget calling shown) = IsBudget budget
IsWithin (Check term) = Unit {0}
IsWithin ShowNet = Unit {0}
IsWithin (RunNet budget shown) = IsBudget budget
IsWithin (Trace budget calling window) = IsBudget budget × IsWindow window
IsWithin (Span budget calling profile schedule) = IsBudget budget
IsWithin (Steps budget window) = IsBudget budget × IsPart window
