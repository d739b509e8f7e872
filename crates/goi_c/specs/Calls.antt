-- What the calls promise to a caller that isn't written in Rattle. Each is a task on the caller's bytes, and what is given back is the
-- task's output, the line of the first fault, or nothing where there was no memory or the numbers ask for nothing.
use Rattle.std.specs.Prelude.{◌≢◌, ◌≤◌, ◌<◌, ℕ, Bool, false, List, length, Option, None, Some}
use Rattle.std.specs.Prelude.{nat_eq, codes}
use Rattle.pcf_values.specs.declared.val.Val.{Val}
use Rattle.goi_jobs.specs.declared.window.Window.{Window}
use Rattle.goi_jobs.specs.Ranges.{IsBudget, IsForks, IsPart, IsCells, IsWindow}
use Rattle.goi_tasks.specs.declared.fault.Fault.{Fault}
use Rattle.goi_jobs.specs.declared.task.Task.{Task}
use Rattle.goi_jobs.specs.declared.task.Task.TheVariants.{Run, Steps}
use Rattle.goi_jobs.specs.declared.verilog.Verilog.{Verilog}
use Rattle.goi_jobs.specs.declared.verilog.Verilog.TheVariants.{Circuit}
use Rattle.goi_tasks.specs.Outputs.{Output}
use Rattle.goi_tasks.specs.Refusals.{most_line, IsLine, fault_status}
use Rattle.program_runs.specs.declared.calling.Calling.{Calling}
use Rattle.program_runs.specs.Programs.{calling_of, OfGround}
use Rattle.goi_tasks.specs.Programs.{FaultyEither}
use Rattle.goi_tasks.specs.Replaying.{replay_status, ReportsReplay, EndsReplay, FaultySchedule}
use Rattle.goi_tasks.specs.Told.{TellsText}
use Rattle.goi_jobs.specs.Tasks.{nothing_shown}
use Rattle.goi_tasks.specs.Tasks.{ReportsText, FaultyFor, EndsText}
use Rattle.goi_tasks.specs.Verilogs.{ReportsVerilog, FaultyVerilog, EndsVerilog}
use Rattle.goi_tasks.specs.declared.answer.Answer.{Answer}
use Rattle.goi_tasks.specs.Asked.{listed_task, run_task, span_task, trace_task}
use Rattle.goi_tasks.specs.Backs.{Back, Comes, Gives, Nothing}
use Rattle.goi_tasks.specs.Numbers.{AnswerIs}

-- ---- numbers that ask for something

-- the numbers of a run ask for something: its budget is within the limits, and no other flag is set
abbrev pub IsAsked : ℕ → ℕ → ℕ → Type 0
IsAsked flags_end budget flags = IsBudget budget × (flags < flags_end)

-- ---- texts

-- a right output is given back, or the line of a fault that is there, or there was no memory
pub data Calls (reports : Output → Type 0) (faulty : Fault → Type 0) (b : Back) : Type 0 where
  prints : (o : Output) → reports o → Gives o.status o.report b → Calls reports faulty b
  refuses : (f : Fault) (line : List ℕ) → faulty f → IsLine f line → Gives (fault_status f) line b → Calls reports faulty b
  no_memory : Nothing 6 b → Calls reports faulty b

-- the call of a task on a text, which one worker runs where something is run
abbrev pub CallsTask : Task → List ℕ → Back → Type 0
CallsTask task bytes b = Calls (ReportsText 1 task bytes) (FaultyFor task bytes) b

-- the call of a schedule on the net of a text's program, with this part of its trace where it is asked for
abbrev pub CallsWalk : List ℕ → List ℕ → Option Window → Back → Type 0
CallsWalk bytes schedule window b =
    Calls (λ o. OfGround bytes (λ t. ReportsReplay t window schedule o)) (λ f. FaultyEither bytes (λ t. FaultySchedule t schedule f) f) b

abbrev pub CallsReplay : List ℕ → List ℕ → Back → Type 0
CallsReplay bytes schedule b = CallsWalk bytes schedule None b

-- where this is asked for, this is so, and else nothing is done
pub record WhereAsked (asked : Type 0) (b : Back) (so : Type 0) : Type 0 where
  pub right : asked → so
  pub wrong : (asked → ⊥) → Nothing 2 b

-- the call of a run of a text's program, and of a listed one, which has no call by value
abbrev pub CallsRun : List ℕ → ℕ → ℕ → Back → Type 0
CallsRun bytes budget flags b = WhereAsked (IsAsked 4 budget flags) b (CallsTask (run_task budget flags) bytes b)

abbrev pub CallsListed : List ℕ → ℕ → Bool → Back → Type 0
CallsListed bytes budget schedule b = WhereAsked (IsBudget budget) b (CallsTask (listed_task budget schedule) bytes b)

-- the part of a trace that these numbers name
abbrev pub part : ℕ → ℕ → Window
part from most = record { from = from; most = most }

-- the call of a run of a text's program, by value where the flags ask for it, with that part of its trace
abbrev pub IsAskedTrace : ℕ → ℕ → Window → Type 0
IsAskedTrace budget flags window = IsAsked 2 budget flags × IsWindow window

abbrev pub CallsTrace : List ℕ → ℕ → ℕ → Window → Back → Type 0
CallsTrace bytes budget flags window b =
    WhereAsked (IsAskedTrace budget flags window) b (CallsTask (trace_task budget flags window) bytes b)

-- the call of a schedule with that part of its trace
abbrev pub CallsReplayTrace : List ℕ → List ℕ → Window → Back → Type 0
CallsReplayTrace bytes schedule window b = WhereAsked (IsWindow window) b (CallsWalk bytes schedule (Some window) b)

-- the call of a run in rounds of a text's program, by value, with its schedule and with a line for each round where the flags ask for it
abbrev pub CallsSpan : List ℕ → ℕ → ℕ → Back → Type 0
CallsSpan bytes budget flags b = WhereAsked (IsAsked 8 budget flags) b (CallsTask (span_task budget flags) bytes b)

-- the call of the reduction of a text's program, with that part of its terms
abbrev pub IsAskedSteps : ℕ → Window → Type 0
IsAskedSteps budget window = IsBudget budget × IsPart window

abbrev pub steps_task : ℕ → Window → Task
steps_task budget window = Steps budget window

abbrev pub CallsSteps : List ℕ → ℕ → Window → Back → Type 0
CallsSteps bytes budget window b = WhereAsked (IsAskedSteps budget window) b (CallsTask (steps_task budget window) bytes b)

-- the call of the circuit of a text's function, alone, with so many cells and forks; its module is named `goi`
abbrev pub IsAskedCircuit : ℕ → ℕ → Type 0
IsAskedCircuit cells forks = IsCells cells × IsForks forks

abbrev pub circuit_alone : ℕ → ℕ → Verilog
circuit_alone cells forks = Circuit cells forks false

abbrev pub CallsCircuit : List ℕ → ℕ → ℕ → Back → Type 0
CallsCircuit bytes cells forks b =
    WhereAsked (IsAskedCircuit cells forks) b
    (Calls (ReportsVerilog (codes "goi") (circuit_alone cells forks) bytes) (FaultyVerilog (circuit_alone cells forks) bytes) b)

-- ---- which status

-- What can be done ends with the status with which it ends, and what has a fault with that of the fault, but for room and memory.
pub record Owns (ends : ℕ → Type 0) (faulty : Fault → Type 0) (b : Back) : Type 0 where
  pub done : (own : ℕ) → ends own → Comes own b
  pub refused : (f : Fault) → faulty f → Comes (fault_status f) b

-- so it is with a task on a text, with its circuit, and with a schedule on the net of a text's program
abbrev pub OwnsTask : Task → List ℕ → Back → Type 0
OwnsTask task bytes b = Owns (EndsText task bytes) (FaultyFor task bytes) b

abbrev pub OwnsCircuit : List ℕ → ℕ → ℕ → Back → Type 0
OwnsCircuit bytes cells forks b = Owns (EndsVerilog (circuit_alone cells forks) bytes) (FaultyVerilog (circuit_alone cells forks) bytes) b

abbrev pub OwnsReplay : List ℕ → List ℕ → Back → Type 0
OwnsReplay bytes schedule b =
    Owns (λ own. OfGround bytes (λ t. EndsReplay t schedule own)) (λ f. FaultyEither bytes (λ t. FaultySchedule t schedule f) f) b

-- a buffer for a line has room for whatever a call gives back that tells no more than lines
abbrev pub HasRoom : Back → Type 0
HasRoom b = most_line ≤ length b.old → b.status ≢ 4

-- ---- numbers

-- the task of a run in numbers
abbrev pub tell_task : Calling → ℕ → Task
tell_task calling budget = Run budget calling nothing_shown

-- what a run in numbers gives back: what it came to, with its status, or the line of a fault that is there, or there was no memory
pub data TellsRun (calling : Calling) (budget : ℕ) (bytes : List ℕ) (a : Answer) (b : Back) : Type 0 where
  ran : (answer : Option Val) (moves : ℕ) → TellsText calling budget bytes answer moves → AnswerIs answer moves a →
      Nothing (replay_status answer) b → TellsRun calling budget bytes a b
  refused : (f : Fault) (line : List ℕ) → FaultyFor (tell_task calling budget) bytes f → IsLine f line → AnswerIs None 0 a →
      Gives (fault_status f) line b → TellsRun calling budget bytes a b
  no_memory : AnswerIs None 0 a → Nothing 6 b → TellsRun calling budget bytes a b

-- the call of a run in numbers; where its numbers ask for nothing, there is no answer
pub record CallsTell (bytes : List ℕ) (budget flags : ℕ) (a : Answer) (b : Back) : Type 0 where
  pub right : IsAsked 2 budget flags → TellsRun (calling_of (nat_eq flags 1)) budget bytes a b
  pub wrong : (IsAsked 2 budget flags → ⊥) → Nothing 2 b
  pub no_answer : (IsAsked 2 budget flags → ⊥) → AnswerIs None 0 a

-- ---- the version

-- 1.1.0, as the file VERSION at the top has it
abbrev pub version : ℕ
version = 10100

-- and as text
abbrev pub version_text : List ℕ
version_text = codes "goi 1.1.0\n"
