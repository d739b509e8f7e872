-- A run of a program's circuit, by what its Verilog means: what it says of the program, and what is told of it.
-- How the module runs stands in `circuit_runs`: an edge with `rst` up over registers that hold 0, and then edges until `done` or `full`.
-- What a circuit of the program is stands in `circuit_meaning`. So what a run comes to is settled by the module, and by the program as far
-- as each of its circuits comes to the same.
use Rattle.std.specs.Prelude.{◌≡◌, ℕ, suc, Bool, true, false, List, [], Option, None, Some}
use Rattle.pcf_values.specs.declared.val.Val.{Val}
use Rattle.pcf_values.specs.Terms.{TermTree}
use Rattle.verilog_tree.specs.Tree.{Item}
use Rattle.verilog_waves.specs.Dump.{dump}
use Rattle.circuit_meaning.specs.Circuit.{Circuit, IsCircuit}
use Rattle.circuit_runs.specs.declared.outcome.Outcome.{Outcome}
use Rattle.circuit_runs.specs.declared.outcome.Outcome.TheVariants.{Ended, Full, Odd, Waits}
use Rattle.circuit_runs.specs.Running.{ComesOf}
use Rattle.circuit_runs.specs.Laws.{RunSays}
use Rattle.circuit_runs.specs.Waves.{edges_of}
use Rattle.goi_reports.specs.Cycles.{cycles_report}
use Rattle.goi_tasks.specs.Outputs.{Output}
use Rattle.goi_tasks.specs.Replaying.{replay_status}

-- the value of a run, if it ended with one
abbrev pub answer_of : Outcome → Option Val
answer_of (Ended v moves k) = Some v
answer_of (Full k) = None
answer_of (Odd k) = None
answer_of Waits = None

-- it ended since the cells or the forks were too few, or since there was no row
abbrev pub is_full : Outcome → Bool
is_full (Ended v moves k) = false
is_full (Full k) = true
is_full (Odd k) = false
is_full Waits = false

-- what is told of a run of a module for which so many cycles were allowed: its answer, or with `waves` what the module holds, edge by edge
abbrev pub IsTold : Bool → List Item → ℕ → Outcome → List ℕ → Type 0
IsTold false items most outcome text = text ≡ cycles_report (answer_of outcome) (edges_of most outcome) (is_full outcome)
IsTold true items most outcome text = text ≡ dump "goi" items (suc (edges_of most outcome))

-- The output of the run of a program's circuit, with so many cells and forks, within so many cycles. What comes of the
-- module is what comes of it by the meaning of Verilog, and it tells what the program means.
pub record ReportsCircuit (cells forks budget : ℕ) (waves : Bool) (t : TermTree) (o : Output) : Type 0 where
  pub circuit : Circuit
  pub is : IsCircuit t 0 circuit
  pub outcome : Outcome
  pub comes : ComesOf (circuit.items cells forks) budget outcome
  pub says : RunSays t circuit cells forks budget outcome
  pub ends : o.status ≡ replay_status (answer_of outcome)
  pub told : IsTold waves (circuit.items cells forks) budget outcome o.report
  pub no_notes : o.notes ≡ []

-- each circuit of the program, with so many cells and forks, ends with this status
abbrev pub EndsCircuit : (cells forks budget : ℕ) → TermTree → ℕ → Type 0
EndsCircuit cells forks budget t status =
    (C : Circuit) → IsCircuit t 0 C → (outcome : Outcome) → ComesOf (C.items cells forks) budget outcome →
    status ≡ replay_status (answer_of outcome)
