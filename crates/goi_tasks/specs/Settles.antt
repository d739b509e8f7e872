-- What comes of a text is settled by its bytes: it is right and ends with one status, or it has one fault.
use Rattle.std.specs.Prelude.{◌≡◌, ℕ, List, Option, None}
use Rattle.pcf_values.specs.declared.val.Val.{Val}
use Rattle.program_runs.specs.declared.calling.Calling.{Calling}
use Rattle.program_runs.specs.Programs.{OfGround}
use Rattle.goi_tasks.specs.declared.fault.Fault.{Fault}
use Rattle.goi_jobs.specs.declared.task.Task.{Task}
use Rattle.goi_jobs.specs.declared.task.Task.TheVariants.{Run}
use Rattle.goi_jobs.specs.declared.shown.Shown.{Shown}
use Rattle.goi_jobs.specs.declared.verilog.Verilog.{Verilog}
use Rattle.goi_tasks.specs.Calls.{ReportsCall, FaultyCall, EndsCall}
use Rattle.goi_tasks.specs.Outputs.{Output}
use Rattle.goi_tasks.specs.Programs.{FaultyEither}
use Rattle.goi_tasks.specs.Replaying.{replay_status, ReportsReplay, EndsReplay, FaultySchedule}
use Rattle.goi_tasks.specs.Told.{TellsText}
use Rattle.goi_jobs.specs.Tasks.{nothing_shown}
use Rattle.goi_tasks.specs.Tasks.{ReportsText, FaultyFor, EndsText}
use Rattle.goi_tasks.specs.Verilogs.{ReportsVerilog, FaultyVerilog, EndsVerilog}

-- What is right, what ends with which status, and what has which fault: whatever is right has the status with which it ends, it has no
-- fault, nor has what ends, and two faults are one.
pub record Settles {X : Type 0} (status : X → ℕ) (right : X → Type 0) (ends : ℕ → Type 0) (faulty : Fault → Type 0) : Type 0 where
  pub one_status : (x : X) (own : ℕ) → right x → ends own → status x ≡ own
  pub right_or_faulty : (x : X) (f : Fault) → right x → faulty f → ⊥
  pub ends_or_faulty : (own : ℕ) (f : Fault) → ends own → faulty f → ⊥
  pub one_fault : (f g : Fault) → faulty f → faulty g → f ≡ g

abbrev pub status_of_output : Output → ℕ
status_of_output o = o.status

-- the answer of a run with its moves, and the status with which it ends
abbrev pub status_of_run : Option Val × ℕ → ℕ
status_of_run r = replay_status r.0

-- so it is with each task, with a run in numbers, with a schedule on a program's net, with a call of a function, and with what is printed
-- of Verilog
pub record TextsSettle : Type 0 where
  pub tasks : (workers : ℕ) (task : Task) (bytes : List ℕ) →
      Settles status_of_output (ReportsText workers task bytes) (EndsText task bytes) (FaultyFor task bytes)
  pub numbers : (calling : Calling) (budget : ℕ) (bytes : List ℕ) →
      Settles status_of_run (λ r. TellsText calling budget bytes r.0 r.1) (EndsText (Run budget calling nothing_shown) bytes)
      (FaultyFor (Run budget calling nothing_shown) bytes)
  pub replays : (bytes schedule : List ℕ) →
      Settles status_of_output (λ o. OfGround bytes (λ t. ReportsReplay t None schedule o))
      (λ own. OfGround bytes (λ t. EndsReplay t schedule own)) (λ f. FaultyEither bytes (λ t. FaultySchedule t schedule f) f)
  pub calls : (workers budget : ℕ) (shown : Shown) (numbers bytes : List ℕ) →
      Settles status_of_output (ReportsCall workers budget shown numbers bytes) (EndsCall budget numbers bytes) (FaultyCall numbers bytes)
  pub verilogs : (name : List ℕ) (verilog : Verilog) (bytes : List ℕ) →
      Settles status_of_output (ReportsVerilog name verilog bytes) (EndsVerilog verilog bytes) (FaultyVerilog verilog bytes)
