-- The table of a net, and what it is of each function whose net it is.
use Rattle.std.proofs.Common.{◌≡◌, ◌<◌, ◌^◌, ℕ, true, List, [], length, refl, sym, ap, ◌∙◌, subst, arith}
use Rattle.pcf_values.specs.Terms.{TermTree}
use Rattle.net_build.specs.Nets.{NetTree}
use Rattle.net_build.specs.NetOf.{net_of}
use Rattle.open_net_laws.specs.Applied.{applied}
use Rattle.open_net_laws.specs.Numbers.{places}
use Rattle.open_net_laws.proofs.Exchanged.{places_length}
use Rattle.verilog_tree.specs.Tree.{Item}
use Rattle.joined_core.specs.Rows.{Site}
use Rattle.joined_core.specs.Listed.{Entry, right_table}
use Rattle.joined_module.specs.Rows.{rows_fit}
use Rattle.joined_module.specs.Module.{ModuleTable, joined_module}
use Rattle.joined_module.specs.Fits.{module_fits}
use Rattle.joined_module_fits.proofs.Formed.{empty_fits}
use Rattle.joined_numbers.specs.At.{number_at}
use Rattle.joined_numbers.specs.Ports.{with_ports}
use Rattle.joined_numbers.specs.Within.{rows_within, starts_within}
use Rattle.joined_numbers.specs.Runs.{table_of}
use Rattle.joined_needs.specs.Told.{NeedsTold}
use Rattle.joined_needs.specs.declared.needs.Needs.{Needs}
use Rattle.circuit_meaning.specs.Circuit.{IsSize, IsCircuit}
use Rattle.circuit_meaning.specs.Counts.{IsCounted}
use Rattle.circuit_meaning.specs.Laws.{room, most_room, table_circuit, TableCircuits, TableCounts}
use Rattle.circuit_meaning.proofs.Smaller.{all_runs, fits_less}
use Rattle.circuit_made.specs.Made.{TableOf, IsNetOf, CircuitOf, CountsOf}

-- a table of rows of which all is true that is asked
pub table_is : (net : NetTree) (ports : List ℕ) (sites : List (ℕ × Site)) (entries : List Entry) (T : ModuleTable) →
    T ≡ table_of net sites entries → right_table (with_ports net ports) sites entries ≡ true → rows_fit entries ≡ true →
    rows_within (length ports) sites entries ≡ true → starts_within net sites ≡ true → module_fits T most_room (length ports) ≡ true →
    TableOf net ports T
table_is net ports sites entries T t a b c d e = record {
  sites = sites;
  entries = entries;
  runs = all_runs net ports sites entries most_room a b c d (ap (λ x. module_fits x most_room (length ports)) (sym t) ∙ e);
  table = t;
}

-- it fits with fewer cells and forks
pub smaller_fits : (T : ModuleTable) (cells forks n : ℕ) → cells < 2 ^ 31 → forks < 2 ^ 31 → module_fits T most_room n ≡ true →
    module_fits T (room cells forks) n ≡ true
smaller_fits T cells forks n c f h = fits_less T most_room (room cells forks) n (omega (arith, c)) (omega (arith, f)) h

-- the table without a row fits
pub empty_fit : (n : ℕ) (T : ModuleTable) → T ≡ record { rows = []; start = 0 } → n < 2 ^ 31 → module_fits T most_room n ≡ true
empty_fit n T e p = ap (λ x. module_fits x most_room n) e ∙ empty_fits most_room n (omega arith) (omega arith) p

-- and is one of each net
pub empty_is : (net : NetTree) (ports : List ℕ) (T : ModuleTable) → T ≡ record { rows = []; start = 0 } → length ports < 2 ^ 31 →
    TableOf net ports T
empty_is net ports T e p = table_is net ports [] [] T e refl refl refl refl (empty_fit (length ports) T e p)

-- ---- of a function

module _ (net : NetTree) (ports : List ℕ) (T : ModuleTable) (h : TableOf net ports T) (m : TermTree) (n : ℕ)
    (is : IsNetOf m n net ports) where
  own : TableOf (net_of (applied m is.numbers)) (places m n) T
  own = subst (λ p. TableOf (net_of (applied m is.numbers)) p T) is.ports_are (subst (λ k. TableOf k ports T) is.net_is h)

  circuit : TableCircuits → IsCircuit m n (table_circuit T n)
  circuit law =
      subst (λ T. IsCircuit m n (table_circuit T n)) (sym own.table)
      (law m n is.numbers is.typed is.many is.small own.sites own.entries own.runs)

  long : length ports ≡ n
  long = ap (λ l. length l) is.ports_are ∙ places_length _ n

-- the module of a net's table is the net's circuit
pub circuit_is : TableCircuits → (net : NetTree) (ports : List ℕ) (cells forks : ℕ) → IsSize cells → IsSize forks → (T : ModuleTable)
    (items : List Item) → TableOf net ports T → items ≡ joined_module T (room cells forks) (length ports) →
    CircuitOf net ports cells forks items
circuit_is law net ports cells forks c f T items h e m n is = record {
  cells_fit = c;
  forks_fit = f;
  circuit = table_circuit T n;
  is = circuit net ports T h m n is law;
  items_are = e ∙ ap (λ k. joined_module T (room cells forks) k) (long net ports T h m n is);
}

-- and what is counted along its rows is what that needs
pub counts_are : TableCircuits → TableCounts → (net : NetTree) (ports vs : List ℕ) (budget : ℕ) (k : Needs) (T : ModuleTable) →
    TableOf net ports T → NeedsTold (number_at vs) T budget k → CountsOf net ports vs budget k
counts_are law counts net ports vs budget k T h told m n is l small =
    let own : TableOf (net_of (applied m is.numbers)) (places m n) T = own net ports T h m n is in
    record {
      circuit = table_circuit T n;
      is = subst (λ j. IsCircuit m j (table_circuit T n)) (sym l) (circuit net ports T h m n is law);
      counted = subst (λ T. NeedsTold (number_at vs) T budget k → IsCounted m (table_circuit T n) vs budget k) (sym own.table)
          (counts m n is.numbers is.typed is.many is.small own.sites own.entries own.runs vs l small budget k) told;
    }
