-- What `run` and `steps` say of one text: both tell one value.
use Rattle.std.specs.Prelude.{◌≡◌, ◌++◌, ℕ, List, Some}
use Rattle.pcf_values.specs.declared.val.Val.{Val}
use Rattle.program_runs.specs.declared.calling.Calling.TheVariants.{ByName}
use Rattle.goi_reports.specs.Lines.{value_line}
use Rattle.goi_jobs.specs.declared.window.Window.{Window}
use Rattle.goi_jobs.specs.declared.shown.Shown.{Shown}
use Rattle.goi_jobs.specs.declared.task.Task.TheVariants.{Run, Steps}
use Rattle.goi_tasks.specs.Outputs.{Output}
use Rattle.goi_tasks.specs.Tasks.{ReportsText}

-- the text begins with the line of this value
abbrev pub TellsFirst : Val → List ℕ → Type 0
TellsFirst v text = (rest : List ℕ) × (text ≡ value_line (Some v) ++ rest)

-- where `run` of a text and `steps` of it both come to a value, within whatever limits, it is one value, and both begin with its line
abbrev pub RunAndStepsAgree : Type 0
RunAndStepsAgree =
    (bytes : List ℕ) (workers budget : ℕ) (shown : Shown) (o : Output) (others most : ℕ) (window : Window) (p : Output) →
    ReportsText workers (Run budget ByName shown) bytes o → ReportsText others (Steps most window) bytes p → o.status ≡ 0 → p.status ≡ 0 →
    (v : Val) × TellsFirst v o.report × TellsFirst v p.report
