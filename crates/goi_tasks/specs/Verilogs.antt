-- What is printed of a text's circuit: that of its function, alone or with the module by which it is called, and of that of its program
-- the run, the registers in it, a bench, what it needs and who moves in it: the output, the first fault of a text for which it can't be
-- printed, and the status with which it ends. The circuit's module has the name that is given.
-- The texts of a circuit, of the module by which it is called and of a bench stand in `circuit_made` and `circuit_calls`, and what a
-- circuit does in `circuit_meaning`. A circuit has whichever rows the search finds of those that are right, so a text isn't settled by its
-- function; what the circuit does is, as far as it has rows.
use Rattle.std.specs.Prelude.{◌≡◌, ℕ, Bool, true, false, List, [], ◌++◌, replicate, Option, None, Some}
use Rattle.pcf_values.specs.declared.val.Val.{Val}
use Rattle.pcf_values.specs.Terms.{TermTree}
use Rattle.cbn_meaning.specs.Meaning.{Means}
use Rattle.net_build.specs.NetOf.{net_of}
use Rattle.open_net_laws.specs.Applied.{applied}
use Rattle.verilog_tree.specs.Names.{text_of}
use Rattle.verilog_tree.specs.Tree.{Item}
use Rattle.circuit_meaning.specs.Circuit.{IsItems}
use Rattle.circuit_made.specs.CircuitText.{circuit_text}
use Rattle.circuit_calls.specs.CallText.{call_text}
use Rattle.circuit_calls.specs.BenchText.{bench_text}
use Rattle.program_runs.specs.Programs.{number, OfProgram}
use Rattle.program_runs.specs.Runs.{Tells}
use Rattle.goi_jobs.specs.declared.verilog.Verilog.{Verilog}
use Rattle.goi_jobs.specs.declared.verilog.Verilog.TheVariants.{Circuit, Run, Waves, Bench, Needs, Schedule}
use Rattle.goi_reports.specs.Reports.{replay_report, where_asked}
use Rattle.goi_tasks.specs.declared.fault.Fault.{Fault}
use Rattle.goi_tasks.specs.Calls.{OfAnyFunction, FaultyAnyFunction}
use Rattle.goi_tasks.specs.Circuits.{EndsCircuit, ReportsCircuit}
use Rattle.goi_tasks.specs.Needs.{ReportsNeeds, ReportsSchedule}
use Rattle.goi_tasks.specs.Outputs.{Output, output}
use Rattle.goi_tasks.specs.Programs.{FaultyText}
use Rattle.goi_tasks.specs.Replaying.{replay_status}
use Rattle.goi_tasks.specs.RunReports.{EndsRun}

-- a text is that of the circuit of a function of so many numbers, made of its net at zeros
pub record PrintsFunction (name : List ℕ) (cells forks : ℕ) (t : TermTree) (n : ℕ) (text : List ℕ) : Type 0 where
  pub items : List Item
  pub is : IsItems t n cells forks items
  pub text_is : text ≡ circuit_text (text_of name) (net_of (applied t (replicate n 0))) items

-- behind it, where that is asked for, the module by which it is called
pub record PrintsModules (name : List ℕ) (cells forks : ℕ) (handshake : Bool) (t : TermTree) (n : ℕ) (text : List ℕ) : Type 0 where
  pub circuit : List ℕ
  pub prints : PrintsFunction name cells forks t n circuit
  pub text_is : text ≡ circuit ++ where_asked handshake (call_text name n)

-- the output of a function's circuit
pub record ReportsModules (name : List ℕ) (cells forks : ℕ) (handshake : Bool) (t : TermTree) (n : ℕ) (o : Output) : Type 0 where
  pub text : List ℕ
  pub prints : PrintsModules name cells forks handshake t n text
  pub output_is : o ≡ output 0 text []

-- the bench of a run with this answer after so many moves; without an answer there is none, and what a run tells is told
abbrev pub bench_report : (name : List ℕ) → Option Val → (moves : ℕ) → List ℕ
bench_report name (Some v) moves = bench_text name v moves
bench_report name None moves = replay_report None moves

-- the output of a term's bench, whose run is allowed so many moves
pub record ReportsBench (name : List ℕ) (budget : ℕ) (t : TermTree) (o : Output) : Type 0 where
  pub answer : Option Val
  pub moves : ℕ
  pub tells : Tells (Means t) (net_of t) budget answer moves
  pub ends : o.status ≡ replay_status answer
  pub report_is : o.report ≡ bench_report name answer moves
  pub no_notes : o.notes ≡ []

-- the output for the text
abbrev pub ReportsVerilog : (name : List ℕ) → Verilog → List ℕ → Output → Type 0
ReportsVerilog name (Circuit cells forks handshake) bytes o = OfAnyFunction bytes (λ t n. ReportsModules name cells forks handshake t n o)
ReportsVerilog name (Run cells forks budget) bytes o = OfProgram number bytes (λ tree t A. ReportsCircuit cells forks budget false t o)
ReportsVerilog name (Waves cells forks budget) bytes o = OfProgram number bytes (λ tree t A. ReportsCircuit cells forks budget true t o)
ReportsVerilog name (Bench budget) bytes o = OfProgram number bytes (λ tree t A. ReportsBench name budget t o)
ReportsVerilog name (Needs budget) bytes o = OfProgram number bytes (λ tree t A. ReportsNeeds budget t o)
ReportsVerilog name (Schedule budget) bytes o = OfProgram number bytes (λ tree t A. ReportsSchedule budget t o)

-- the first fault of a text for which it can't be printed
abbrev pub FaultyVerilog : Verilog → List ℕ → Fault → Type 0
FaultyVerilog (Circuit cells forks handshake) bytes f = FaultyAnyFunction bytes f
FaultyVerilog (Run cells forks budget) bytes f = FaultyText number bytes f
FaultyVerilog (Waves cells forks budget) bytes f = FaultyText number bytes f
FaultyVerilog (Bench budget) bytes f = FaultyText number bytes f
FaultyVerilog (Needs budget) bytes f = FaultyText number bytes f
FaultyVerilog (Schedule budget) bytes f = FaultyText number bytes f

-- it can be printed for the text, and ends with this status
abbrev pub EndsVerilog : Verilog → List ℕ → ℕ → Type 0
EndsVerilog (Circuit cells forks handshake) bytes status = OfAnyFunction bytes (λ t n. status ≡ 0)
EndsVerilog (Run cells forks budget) bytes status = OfProgram number bytes (λ tree t A. EndsCircuit cells forks budget t status)
EndsVerilog (Waves cells forks budget) bytes status = OfProgram number bytes (λ tree t A. EndsCircuit cells forks budget t status)
EndsVerilog (Bench budget) bytes status = OfProgram number bytes (λ tree t A. EndsRun budget (net_of t) status)
EndsVerilog (Needs budget) bytes status = OfProgram number bytes (λ tree t A. EndsRun budget (net_of t) status)
EndsVerilog (Schedule budget) bytes status = OfProgram number bytes (λ tree t A. EndsRun budget (net_of t) status)
