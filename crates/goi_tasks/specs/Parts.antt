-- What the calls inside say of a part of a task.
use Rattle.std.specs.Prelude.{ℕ, List, ◌≡◌, [], Ok, ◌≢◌, Err, Bool, true, false}
use Rattle.pcf_values.specs.Terms.{TermTree, nat, TyTree}
use Rattle.net_build.specs.Nets.{NetTree}
use Rattle.net_text.specs.Accepted.{ListsProgram}
use Rattle.program_runs.specs.declared.calling.Calling.TheVariants.{ByName}
use Rattle.program_runs.specs.Nets.{RunsAs}
use Rattle.pcf_values.specs.Named.{NamedTree}
use Rattle.pcf_types.specs.Checking.{type_of}
use Rattle.goi_jobs.specs.declared.window.Window.{Window}
use Rattle.circuit_runs.specs.declared.outcome.Outcome.{Outcome}
use Rattle.verilog_tree.specs.Tree.{Item}
use Rattle.circuit_made.specs.Made.{CircuitOf}
use Rattle.circuit_runs.specs.Running.{ComesOf}
use Rattle.goi_tasks.specs.Circuits.{IsTold, answer_of}
use Rattle.goi_tasks.specs.Outputs.{Output}
use Rattle.goi_tasks.specs.Reductions.{ReportsSteps}
use Rattle.goi_tasks.specs.Replaying.{replay_status}
use Rattle.replay_check.specs.declared.fault.ReplayFault.{ReplayFault}
use Rattle.replay_check.specs.declared.fault.ReplayFault.TheVariants as replay
use Rattle.replay_check.specs.Replays.{ReplaysAs}
use Rattle.goi_tasks.specs.declared.fault.Fault.{Fault}
use Rattle.goi_tasks.specs.declared.fault.Fault.TheVariants.{Moves}
use Rattle.goi_reports.specs.Reports.{check_report}
use Rattle.metered_pool.specs.Progress.{IsProgress}

-- this is the net of the program that the bytes list, which runs on it by name
pub record IsListedNet (bytes : List ℕ) (net : NetTree) : Type 0 where
  pub term : TermTree
  pub lists : ListsProgram bytes term
  pub runs : RunsAs ByName term net

-- this is the output of the run of the net's circuit
pub record IsCircuitRun (net : NetTree) (cells forks budget : ℕ) (waves : Bool) (o : Output) : Type 0 where
  pub items : List Item
  pub circuit : CircuitOf net [] cells forks items
  pub outcome : Outcome
  pub comes : ComesOf items budget outcome
  pub ends : o.status ≡ replay_status (answer_of outcome)
  pub told : IsTold waves items budget outcome o.report
  pub no_notes : o.notes ≡ []

-- the tree is a program of type `nat`, and this is the output of its reduction
abbrev pub ReducesTree : ℕ → Window → NamedTree → Output → Type 0
ReducesTree budget window tree o = (t : TermTree) × (type_of [] tree ≡ Ok (t, nat)) × ReportsSteps budget window tree t o

-- the net can't run these tickets, for this fault
pub data FaultyReplay (net : NetTree) (tickets : List ℕ) : Fault → Type 0 where
  no_moves : (f : ReplayFault) → f ≢ replay.NoMemory → ReplaysAs net tickets (Err f) → FaultyReplay net tickets (Moves f)

-- the report on the type of a tree, and with `term` on the tree
abbrev pub ChecksTree : Bool → NamedTree → List ℕ → Type 0
ChecksTree term tree report = (t : TermTree) × (A : TyTree) × (type_of [] tree ≡ Ok (t, A)) × (report ≡ check_report A term tree)

-- what is read of a run of so many moves while it goes on: its progress where that is asked for, and else nothing
abbrev pub NumbersOf : Bool → ℕ → List ℕ → Type 0
NumbersOf false moves numbers = numbers ≡ []
NumbersOf true moves numbers = IsProgress moves numbers
