-- What is made of a net: its table of joined rows, and its circuit, with a port for each of some nodes. A circuit is that of each function
-- whose net it is, as `IsCircuit` says; which rows it has is the search's.
use Rattle.std.specs.Prelude.{◌≡◌, ℕ, true, List, [], length}
use Rattle.pcf_values.specs.Terms.{TermTree}
use Rattle.pcf_values.specs.Typing.{HasType}
use Rattle.net_build.specs.Nets.{NetTree}
use Rattle.net_build.specs.NetOf.{net_of}
use Rattle.open_net_laws.specs.Applied.{applied, numeric}
use Rattle.open_net_laws.specs.Arguments.{AreNumbers}
use Rattle.open_net_laws.specs.Numbers.{places}
use Rattle.verilog_tree.specs.Tree.{Item}
use Rattle.joined_core.specs.Rows.{Site}
use Rattle.joined_core.specs.Listed.{Entry}
use Rattle.joined_module.specs.Module.{ModuleTable}
use Rattle.joined_numbers.specs.Runs.{table_of, module_runs}
use Rattle.joined_needs.specs.declared.needs.Needs.{Needs}
use Rattle.circuit_meaning.specs.Circuit.{IsItems}
use Rattle.circuit_meaning.specs.Counts.{Counts}
use Rattle.circuit_meaning.specs.Laws.{most_room}

-- the table of a net, with ports at these places in its list of nodes
pub record TableOf (net : NetTree) (ports : List ℕ) (T : ModuleTable) : Type 0 where
  pub sites : List (ℕ × Site)
  pub entries : List Entry
  pub runs : module_runs net ports sites entries most_room ≡ true
  pub table : T ≡ table_of net sites entries

-- the net is that of a function of so many numbers, at whatever numbers, and the ports are at its arguments' places
pub record IsNetOf (m : TermTree) (n : ℕ) (net : NetTree) (ports : List ℕ) : Type 0 where
  pub typed : HasType [] m (numeric n)
  pub numbers : List ℕ
  pub many : length numbers ≡ n
  pub small : AreNumbers numbers
  pub net_is : net ≡ net_of (applied m numbers)
  pub ports_are : ports ≡ places m n

-- the circuit of a net
abbrev pub CircuitOf : NetTree → (ports : List ℕ) → (cells forks : ℕ) → List Item → Type 0
CircuitOf net ports cells forks is = (m : TermTree) (n : ℕ) → IsNetOf m n net ports → IsItems m n cells forks is

-- what it needs at these numbers
abbrev pub CountsOf : NetTree → (ports vs : List ℕ) → (budget : ℕ) → Needs → Type 0
CountsOf net ports vs budget k =
    (m : TermTree) (n : ℕ) → IsNetOf m n net ports → length vs ≡ n → AreNumbers vs → Counts m vs budget k
