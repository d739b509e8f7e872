-- The circuit of a table that the check takes is that of its function.
use Rattle.std.proofs.Common.{◌≡◌, ◌⊎◌, ◌↔◌, ◌<◌, ◌^◌, ℕ, true, max, List, [], length, refl, ◌∙◌, subst, arith}
use Prim.Native.String.{String}
use Rattle.pcf_values.specs.Terms.{TermTree}
use Rattle.pcf_values.specs.Typing.{HasType}
use Rattle.net_build.specs.NetOf.{net_of}
use Rattle.open_net_laws.specs.Applied.{applied, numeric}
use Rattle.open_net_laws.specs.Arguments.{AreNumbers, closed_part}
use Rattle.open_net_laws.specs.Numbers.{places}
use Rattle.open_net_laws.proofs.Exchanged.{places_length}
use Rattle.verilog_tree.specs.Tree.{memory, count}
use Rattle.verilog_tree.specs.Meaning.{Store}
use Rattle.verilog_tree.specs.WellFormed.{WellFormed}
use Rattle.verilog_tree.proofs.Once.{tree_declares}
use Rattle.verilog_tree.proofs.Lists.{stands_at}
use Rattle.joined_core.specs.Rows.{Site}
use Rattle.joined_core.specs.Listed.{Entry}
use Rattle.joined_core.specs.Circuit.{Room}
use Rattle.joined_module.specs.Fields.{vector_wide}
use Rattle.joined_module.specs.Rows.{ModuleRow}
use Rattle.joined_module.specs.Module.{ModuleTable, found_rows, Widths, widths, has_product, cell_width, fork_width, store_registers}
use Rattle.joined_module.specs.Module.{joined_module}
use Rattle.joined_module.specs.Fits.{module_fits}
use Rattle.joined_module_fits.proofs.Formed.{joined_well_formed}
use Rattle.joined_edges.proofs.Items.{in_store}
use Rattle.joined_numbers.specs.At.{number_at}
use Rattle.joined_numbers.specs.Runs.{table_of, module_runs}
use Rattle.joined_means.specs.Laws.{AtPorts, RunTells}
use Rattle.joined_means.proofs.Tables.{checked}
use Rattle.joined_needs.specs.Told.{NeedsTold}
use Rattle.joined_needs.specs.declared.needs.Needs.{Needs}
use Rattle.circuit_meaning.specs.Circuit.{IsSize, HasRoom, registers_after, IsModule}
use Rattle.circuit_meaning.specs.Counts.{IsCounted}
use Rattle.circuit_meaning.specs.Laws.{room, most_room, table_circuit, TableCircuits, TableCounts}
use Rattle.circuit_meaning.proofs.Smaller.{runs_less}
use Rattle.circuit_meaning.proofs.Counted.{needs_tell}
use Rattle.circuit_meaning.proofs.Moves.{few_moves, long_run}
use Rattle.circuit_meaning.proofs.Calls.{call_tells, call_full, call_earlier, call_done, needs_are}

-- ---- its modules

module _ (T : ModuleTable) (n cells forks : ℕ) (c : IsSize cells) (f : IsSize forks) (fit : module_fits T (room cells forks) n ≡ true) where
  abbrev z : Room
  z = room cells forks

  abbrev rows : List ModuleRow
  rows = found_rows T.rows

  abbrev W : Widths
  W = widths rows z

  well : WellFormed (joined_module T z n) ≡ true
  well = joined_well_formed T z n fit

  module_is : IsModule (joined_module T z n) cells forks
  module_is = record {
    formed = well;
    cells_are = (tree_declares (joined_module T z n) well).words (vector_wide (cell_width W)) "cells" (count (max 1 cells))
        (in_store rows z T.start n (has_product rows) (memory (vector_wide (cell_width W)) "cells" (count (max 1 cells)))
        (stands_at (store_registers W) 2 (memory (vector_wide (cell_width W)) "cells" (count (max 1 cells))) refl))
        ∙ (let o = c.0 in omega (arith, o));
    forks_are = (tree_declares (joined_module T z n) well).words (vector_wide (fork_width W)) "forks" (count (max 1 forks))
        (in_store rows z T.start n (has_product rows) (memory (vector_wide (fork_width W)) "forks" (count (max 1 forks)))
        (stands_at (store_registers W) 8 (memory (vector_wide (fork_width W)) "forks" (count (max 1 forks))) refl))
        ∙ (let o = f.0 in omega (arith, o));
  }

-- ---- its calls

-- what is told of a call at these arguments, of which there are so many
record Called (m : TermTree) (T : ModuleTable) (n : ℕ) (vs : List ℕ) : Type 0 where
  tells : (cells forks : ℕ) → IsSize cells → IsSize forks → (S : Store) (strays : ℕ → String → ℕ → ℕ) (more : List (List ℕ)) →
      AtPorts n more → let R = registers_after (joined_module T (room cells forks) n) vs S strays more in
      (R.vec "full" ≡ 1) ⊎ ((R.vec "full" ≡ 0) × RunTells (applied m vs) (length more) R)
  full : (cells forks : ℕ) → IsSize cells → IsSize forks → (S : Store) (strays : ℕ → String → ℕ → ℕ) (more : List (List ℕ)) →
      AtPorts n more → let R = registers_after (joined_module T (room cells forks) n) vs S strays more in
      (R.vec "full" ≡ 0) ↔ HasRoom ((table_circuit T n).needs vs (length more)) cells forks
  counts : (budget : ℕ) (k : Needs) → NeedsTold (number_at vs) T budget k → IsCounted m (table_circuit T n) vs budget k

module _ (m : TermTree) (us : List ℕ) (sites : List (ℕ × Site)) (entries : List Entry) (a : AreNumbers us) where
  abbrev T : ModuleTable
  T = table_of (net_of (applied m us)) sites entries

  abbrev CallsAt : List ℕ → ℕ → Type 0
  CallsAt vs n =
      HasType [] m (numeric n) → length us ≡ n → module_runs (net_of (applied m us)) (places m n) sites entries most_room ≡ true →
      Called m T n vs

  calls_at : (vs : List ℕ) → AreNumbers vs → CallsAt vs (length vs)
  calls_at vs b h e runs = record {
    tells = λ cells forks c f S strays more p. call_tells m us vs h e a b sites entries runs cells forks c.1 f.1 S strays more p;
    full = λ cells forks c f S strays more p. call_full m us vs h e a b sites entries runs cells forks c.1 f.1 S strays more p;
    counts = λ budget k told. record {
      tells = needs_tell m us vs h e a b sites entries runs budget k told;
      needs = needs_are m us vs h e a b sites entries runs budget k told;
      long = long_run T (few_moves T most_room (length (places m (length vs)))
          (checked (net_of (applied m us)) (places m (length vs)) sites entries most_room runs).wide) (number_at vs) budget k.cycles
          k.ending told.ends;
      done = λ cells forks c f enough few S strays more p. (
        call_earlier m us vs h e a b sites entries runs cells forks c.1 f.1 S strays more p budget k told enough few,
        call_done m us vs h e a b sites entries runs cells forks c.1 f.1 S strays more p budget k told enough few,
      );
    };
  }

  calls : (vs : List ℕ) → AreNumbers vs → (n : ℕ) → length vs ≡ n → CallsAt vs n
  calls vs b n l = subst (CallsAt vs) l (calls_at vs b)

-- ---- the circuit

-- for any room the table fits, since it fits the most; each call is the one at its arguments
pub table_circuits : TableCircuits
table_circuits m n us h e a sites entries runs = record {
  modules = λ cells forks c f. module_is (table_of (net_of (applied m us)) sites entries) n cells forks c f (fits cells forks c.1 f.1);
  tells = λ vs l b cells forks c f S strays more p. (calls m us sites entries a vs b n l h e runs).tells cells forks c f S strays more p;
  full = λ vs l b cells forks c f S strays more p. (calls m us sites entries a vs b n l h e runs).full cells forks c f S strays more p;
}
  where
    fits : (cells forks : ℕ) → cells < 2 ^ 31 → forks < 2 ^ 31 →
        module_fits (table_of (net_of (applied m us)) sites entries) (room cells forks) n ≡ true
    fits cells forks c f =
        subst (λ k. module_fits (table_of (net_of (applied m us)) sites entries) (room cells forks) k ≡ true)
        (places_length (length (closed_part m).nodes) n)
        (checked (net_of (applied m us)) (places m n) sites entries (room cells forks)
        (runs_less (net_of (applied m us)) (places m n) sites entries most_room (room cells forks) (omega (arith, c)) (omega (arith, f))
        runs)).wide

pub table_counts : TableCounts
table_counts m n us h e a sites entries runs vs l b budget k told = (calls m us sites entries a vs b n l h e runs).counts budget k told
