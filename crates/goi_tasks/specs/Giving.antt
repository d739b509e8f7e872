-- What is given back of a task's result.
use Rattle.std.specs.Prelude.{◌⊎◌, List, ℕ, Result, Ok, Err}
use Rattle.goi_tasks.specs.declared.report.Report.{Report}
use Rattle.goi_tasks.specs.declared.stop.Stop.{Stop}
use Rattle.goi_tasks.specs.declared.stop.Stop.TheVariants as stop
use Rattle.goi_tasks.specs.Refusals.{IsLine, fault_status}
use Rattle.goi_tasks.specs.Backs.{Back, Gives, Nothing}

-- the line of the fault with its status, or no memory
abbrev pub OfStop : Stop → Back → Type 0
OfStop stop.Memory b = Nothing 6 b
OfStop (stop.Fault f) b = ((line : List ℕ) × IsLine f line × Gives (fault_status f) line b) ⊎ Nothing 6 b

-- the report with its status, or why there is none
abbrev pub OfResult : Result Report Stop → Back → Type 0
OfResult (Ok r) b = Gives r.status r.text.items b
OfResult (Err s) b = OfStop s b
