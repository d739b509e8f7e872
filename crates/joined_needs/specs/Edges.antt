-- The edges of a table's circuit, rows with all that they wait for, whatever room they take; and how many cells are in use and forks open
-- at once in them. A circuit makes the same edges as far as it has room.
use Rattle.std.specs.Prelude.{ℕ, zero, suc, max, not, ◌&&◌, ◌||◌, List, [], length, Option, Some, None}
use Rattle.std.specs.Prelude.{nat_eq, nat_lt, if◌then◌else◌}
use Rattle.joined_module.specs.Rows.{ModuleRow, is_new_cell, row_looks}
use Rattle.joined_module.specs.Fields.{sees_later, takes_operand, opens_fork, kept_operand, is_kept}
use Rattle.joined_module.specs.Module.{ModuleTable}
use Rattle.joined_module.specs.Machine.{Tagged, tagged_at, RowCircuit, seen_by, base_of, place_after, row_makes}
use Rattle.joined_found.specs.Found.{next_row}
use Rattle.joined_edges.specs.Timed.{Timed, rests, timed_rest, timed_wait, timed_none, late_after, timed_start}

-- an edge at which a row is made
abbrev pub act_edge : (ℕ → ℕ) → List ModuleRow → ModuleRow → Timed → Timed
act_edge ps rows r t = let D : RowCircuit = row_makes ps r t.circuit in record {
  circuit = D;
  row = next_row rows (sees_later r) D.key (seen_by D.site D);
  late = late_after ps t.circuit r.worth t.late;
  seen = not (is_new_cell (row_looks r)) && nat_lt (place_after r t.circuit) (base_of r t.circuit);
  fresh = opens_fork r.fork || is_kept (kept_operand r.fork);
  changed = nat_eq t.late 1 || takes_operand r.worth;
  done = t.done;
}

abbrev pub row_edge : (ℕ → ℕ) → List ModuleRow → ModuleRow → Timed → Timed
row_edge ps rows r t =
    if rests r t then timed_rest t else (if r.waits then timed_wait rows t else act_edge ps rows r t)

abbrev pub found_edge : (ℕ → ℕ) → List ModuleRow → Option ModuleRow → Timed → Timed
found_edge ps rows None t = timed_none t
found_edge ps rows (Some r) t = row_edge ps rows r t

-- an edge
abbrev pub an_edge : (ℕ → ℕ) → List ModuleRow → Timed → Timed
an_edge ps rows t = if t.circuit.ended || t.circuit.full then timed_rest t else found_edge ps rows t.row t

-- a memory in which nothing was written
abbrev pub blank : ℕ → ℕ → Tagged
blank n = tagged_at []

-- so many edges from the start on
abbrev pub edge_run : (ℕ → ℕ) → ModuleTable → ℕ → Timed
edge_run ps T zero = timed_start T blank
edge_run ps T (suc k) = an_edge ps T.rows (edge_run ps T k)

-- the most cells in use within so many edges
abbrev pub edge_cells : (ℕ → ℕ) → ModuleTable → ℕ → ℕ
edge_cells ps T zero = 0
edge_cells ps T (suc k) = max (edge_cells ps T k) (edge_run ps T (suc k)).circuit.top

-- and the most open forks
abbrev pub edge_forks : (ℕ → ℕ) → ModuleTable → ℕ → ℕ
edge_forks ps T zero = 0
edge_forks ps T (suc k) = max (edge_forks ps T k) (length (edge_run ps T (suc k)).circuit.forks)
