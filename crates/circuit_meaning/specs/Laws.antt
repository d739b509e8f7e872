-- The circuit of a table of joined rows, and the statements of `law_circuits`: it is the circuit of its function, and what is counted along
-- its rows is counted of it.
use Rattle.std.specs.Prelude.{◌≡◌, ℕ, Bool, true, false, List, [], length, Option, Some, None}
use Rattle.pcf_values.specs.Terms.{TermTree}
use Rattle.pcf_values.specs.Typing.{HasType}
use Rattle.net_build.specs.NetOf.{net_of}
use Rattle.open_net_laws.specs.Applied.{applied, numeric}
use Rattle.open_net_laws.specs.Arguments.{AreNumbers}
use Rattle.open_net_laws.specs.Numbers.{places}
use Rattle.joined_core.specs.Rows.{Site}
use Rattle.joined_core.specs.Listed.{Entry}
use Rattle.joined_core.specs.Circuit.{Room}
use Rattle.joined_module.specs.Module.{ModuleTable, joined_module}
use Rattle.joined_numbers.specs.At.{number_at}
use Rattle.joined_numbers.specs.Runs.{table_of, module_runs}
use Rattle.joined_needs.specs.Edges.{edge_run, edge_cells, edge_forks}
use Rattle.joined_needs.specs.Told.{NeedsTold}
use Rattle.joined_needs.specs.declared.needs.Needs.{Needs}
use Rattle.circuit_meaning.specs.Circuit.{Circuit, IsCircuit}
use Rattle.circuit_meaning.specs.Counts.{IsCounted}

-- so many cells and forks
abbrev pub room : (cells forks : ℕ) → Room
room c f = record { cells = c; forks = f }

-- the most of both
abbrev pub most_room : Room
most_room = room 2147483647 2147483647

-- as many are needed, unless there was no row
abbrev pub needed : (full : Bool) → (cells forks : ℕ) → Option (ℕ × ℕ)
needed true c f = None
needed false c f = Some (c, f)

-- the circuit of a table, with so many ports
abbrev pub table_circuit : ModuleTable → ℕ → Circuit
table_circuit T n = record {
  items = λ c f. joined_module T (room c f) n;
  needs = λ vs k. needed (edge_run (number_at vs) T k).circuit.full (edge_cells (number_at vs) T k) (edge_forks (number_at vs) T k);
}

-- what holds of every function of numbers, of whatever numbers its net was made at, with a table for that net that the check takes
abbrev pub OfEveryTable : ((m : TermTree) → ℕ → ModuleTable → Type 0) → Type 0
OfEveryTable Says =
    (m : TermTree) (n : ℕ) (us : List ℕ) → HasType [] m (numeric n) → length us ≡ n → AreNumbers us →
    (sites : List (ℕ × Site)) (entries : List Entry) →
    module_runs (net_of (applied m us)) (places m n) sites entries most_room ≡ true →
    Says m n (table_of (net_of (applied m us)) sites entries)

-- the table's circuit is the function's
abbrev pub TableCircuits : Type 0
TableCircuits = OfEveryTable (λ m n T. IsCircuit m n (table_circuit T n))

-- and what is counted along its rows at some arguments is counted of it
abbrev pub TableCounts : Type 0
TableCounts = OfEveryTable (λ m n T. (vs : List ℕ) → length vs ≡ n → AreNumbers vs → (budget : ℕ) (k : Needs) →
    NeedsTold (number_at vs) T budget k → IsCounted m (table_circuit T n) vs budget k)
