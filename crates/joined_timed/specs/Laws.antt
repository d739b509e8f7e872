-- Rows with their waits go along with the rows: the statements of `law_timed_along`.
use Rattle.std.specs.Prelude.{◌≡◌, ◌≤◌, ℕ, suc, ◌*◌, true, false, List, Some}
use Rattle.joined_core.specs.Rows.{nowhere}
use Rattle.joined_core.specs.Circuit.{Room}
use Rattle.joined_module.specs.Rows.{ModuleRow}
use Rattle.joined_module.specs.Module.{ModuleTable}
use Rattle.joined_module.specs.Machine.{Tagged, RowCircuit, seen_by, find_row, row_clocks, row_start, row_there, read_there}
use Rattle.joined_found.specs.Found.{rows_see, rows_land, rows_keyed}
use Rattle.joined_edges.specs.Timed.{Timed, timed_edges, timed_start, something, TimedRight}

-- after any number of rows the row that is found finds what it reads
abbrev pub RowsThere : (ℕ → ℕ) → Room → List ModuleRow → RowCircuit → Type 0
RowsThere ps z rows D0 = (j : ℕ) (r : ModuleRow) → let D = row_clocks ps z rows j D0 in D.ended ≡ false → D.full ≡ false →
    find_row rows D.key (seen_by D.site D) ≡ Some r → (row_there D r ≡ true) × (read_there ps rows D r ≡ true)

-- and there is something where it is looked
abbrev pub RowsLook : (ℕ → ℕ) → Room → List ModuleRow → RowCircuit → Type 0
RowsLook ps z rows D0 = (j : ℕ) → let D = row_clocks ps z rows j D0 in D.full ≡ false → something D.site D.sigs D.boxes ≡ true

-- what is asked of a table
pub record TableGoes (ps : ℕ → ℕ) (z : Room) (T : ModuleTable) (mem : ℕ → ℕ → Tagged) : Type 0 where
  pub keyed : rows_keyed T.rows ≡ true
  pub land : rows_land T.rows ≡ true
  pub start : rows_see T.rows T.start nowhere ≡ true
  pub there : RowsThere ps z T.rows (row_start T.start mem)
  pub look : RowsLook ps z T.rows (row_start T.start mem)

-- after n edges j rows were made: no more than edges, and no fewer than one in 133, until the run has ended and its value was told
pub record Timely (ps : ℕ → ℕ) (z : Room) (T : ModuleTable) (mem : ℕ → ℕ → Tagged) (n : ℕ) (t : Timed) : Type 0 where
  pub rows : ℕ
  pub circuit : t.circuit ≡ row_clocks ps z T.rows rows (row_start T.start mem)
  pub few : rows ≤ n
  pub bound : t.done ≡ false → t.circuit.full ≡ false → n ≤ suc (133 * rows)
  pub done : t.done ≡ true → t.circuit.ended ≡ true
  -- where the run has ended, it had not before the last row
  pub before : ℕ
  pub last : t.circuit.ended ≡ true → rows ≡ suc before
  pub going : t.circuit.ended ≡ true → (row_clocks ps z T.rows before (row_start T.start mem)).ended ≡ false
  pub ready : t.circuit.ended ≡ true → (row_clocks ps z T.rows before (row_start T.start mem)).full ≡ false
  -- where it goes on, the row at work is the one that is found, or waits, and finds what it reads
  pub right : t.circuit.ended ≡ false → t.circuit.full ≡ false → TimedRight ps T.rows t

abbrev pub TimedAlong : Type 0
TimedAlong = (ps : ℕ → ℕ) (z : Room) (T : ModuleTable) (mem : ℕ → ℕ → Tagged) → TableGoes ps z T mem → (n : ℕ) →
    Timely ps z T mem n (timed_edges ps z T.rows n (timed_start T mem))
