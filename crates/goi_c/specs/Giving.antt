-- What is given back of a run's numbers and of a function's rows, and what is filled in of a fault.
use Rattle.std.specs.Prelude.{◌≡◌, ◌⊎◌, ℕ, List, None, Result, Ok, Err}
use Rattle.pcf_values.specs.Terms.{TermTree}
use Rattle.goi_tasks.specs.declared.telling.ValueAndMoves.{ValueAndMoves}
use Rattle.goi_tasks.specs.declared.report.Report.{Report}
use Rattle.goi_tasks.specs.declared.stop.Stop.{Stop}
use Rattle.goi_tasks.specs.declared.stop.Stop.TheVariants as stop
use Rattle.goi_tasks.specs.Refusals.{fault_status}
use Rattle.goi_tasks.specs.Replaying.{replay_status}
use Rattle.goi_tasks.specs.declared.answer.Answer.{Answer}
use Rattle.goi_tasks.specs.Backs.{Back, Nothing}
use Rattle.goi_tasks.specs.Giving.{OfStop}
use Rattle.goi_tasks.specs.Numbers.{AnswerIs, TellsNone, rows_status}
use Rattle.goi_c.specs.declared.finding.FaultData.{FaultData}
use Rattle.goi_c.specs.Faults.{FaultIs, IsNoFault}
use Rattle.goi_c.specs.Rows.{TellsRows}

-- the numbers with the status of their answer, or why there are none
abbrev pub OfTold : Result ValueAndMoves Stop → Answer → Back → Type 0
OfTold (Ok t) a b = AnswerIs t.answer t.moves a × Nothing (replay_status t.answer) b
OfTold (Err s) a b = AnswerIs None 0 a × OfStop s b

-- a fault in numbers with its status, or none and why
abbrev pub Fills : Stop → ℕ → FaultData → Type 0
Fills stop.Memory status d = (status ≡ 6) × IsNoFault d
Fills (stop.Fault f) status d = (status ≡ fault_status f) × FaultIs f d

abbrev pub FillsResult : Result Report Stop → ℕ → FaultData → Type 0
FillsResult (Ok r) status d = (status ≡ 0) × IsNoFault d
FillsResult (Err s) status d = Fills s status d

-- what a function came to at rows, with the status of all, or no answer and no memory
abbrev pub IsToldBy : TermTree × ℕ → ℕ → List ℕ → ℕ → List Answer → Type 0
IsToldBy f budget values status answers =
    (TellsRows f.0 f.1 budget values answers × (status ≡ rows_status answers)) ⊎ (TellsNone answers × (status ≡ 6))
