-- The rows that a module makes with all that it waits for, told without registers: for how many edges a number is on its way, what was
-- read of the cell that is looked at, and what was written at the last edge. So each edge is a row, one that waits, or a rest, and exact
-- cycles are counted.
use Rattle.std.specs.Prelude.{◌≡◌, ◌⊎◌, ℕ, zero, suc, ◌-◌, Bool, true, false, not, ◌&&◌, ◌||◌, List, ◌∷◌, length}
use Rattle.std.specs.Prelude.{Option, Some, None, nat_eq, nat_lt, if◌then◌else◌}
use Rattle.late_unit.specs.Works.{edges_of}
use Rattle.joined_core.specs.Circuit.{Room}
use Rattle.joined_core.specs.Rows.{Site, nowhere, on_sigs, on_boxes}
use Rattle.joined_module.specs.Rows.{Worth, comes_to, sees_nothing, ModuleRow, is_new_cell, row_looks}
use Rattle.joined_module.specs.Fields.{needs_value, tests_value, sees_later, takes_operand, opens_fork, kept_operand, is_kept, answers_in}
use Rattle.joined_module.specs.Module.{ModuleTable, is_waited, waiting_row, found_rows}
use Rattle.joined_module.specs.Machine.{Tagged, RowCircuit, seen_by, find_row, base_of, operand_value, place_after, row_made, row_start}
use Rattle.joined_module.specs.Machine.{looked_place}
use Rattle.joined_module.specs.Machine.{row_there, read_there, takes_words}
use Rattle.joined_found.specs.Found.{next_row, has_key, rows_see}

-- rows with what is waited for
pub record Timed : Type 0 where
  pub circuit : RowCircuit
  -- the row that is made next, if there is one
  pub row : Option ModuleRow
  -- the edges until the value is there, of which the last one tells it
  pub late : ℕ
  -- the cell that is looked at was read
  pub seen : Bool
  -- a fork was written at the last edge, and the value was
  pub fresh : Bool
  pub changed : Bool
  -- the run has ended, and the value was told
  pub done : Bool

-- the row rests: until the value is there that it needs, or it is known whether that is 0, or what the innermost fork has was read
abbrev pub rests : ModuleRow → Timed → Bool
rests r t =
    (nat_lt 0 t.late && needs_value r) || (((nat_lt 0 t.late || t.changed) && tests_value r) || (t.fresh && answers_in r.fork))

-- an edge at which it does
abbrev pub timed_rest : Timed → Timed
timed_rest t = record {
  circuit = t.circuit;
  row = t.row;
  late = t.late - 1;
  seen = t.seen;
  fresh = false;
  changed = nat_eq t.late 1;
  done = t.done || (t.circuit.ended && nat_eq t.late 0);
}

-- an edge of a row that waits
abbrev pub timed_wait : List ModuleRow → Timed → Timed
timed_wait rows t = record {
  circuit = t.circuit;
  row = find_row rows t.circuit.key (seen_by t.circuit.site t.circuit);
  late = t.late - 1;
  seen = true;
  fresh = false;
  changed = nat_eq t.late 1;
  done = t.done;
}

-- how late the value is that a row makes, where it was to come after so many edges
abbrev pub late_after : (ℕ → ℕ) → RowCircuit → Worth → ℕ → ℕ
late_after ps D (comes_to o x y) n = edges_of o (operand_value ps D y)
late_after ps D w n = n - 1

-- an edge at which the row is made
abbrev pub timed_act : (ℕ → ℕ) → Room → List ModuleRow → ModuleRow → Timed → Timed
timed_act ps z rows r t = let D : RowCircuit = row_made ps z (Some r) t.circuit in record {
  circuit = D;
  row = next_row rows (sees_later r) D.key (seen_by D.site D);
  late = late_after ps t.circuit r.worth t.late;
  seen = not (is_new_cell (row_looks r)) && nat_lt (place_after r t.circuit) (base_of r t.circuit);
  fresh = opens_fork r.fork || is_kept (kept_operand r.fork);
  changed = nat_eq t.late 1 || takes_operand r.worth;
  done = t.done;
}

-- an edge without a row
abbrev pub timed_none : Timed → Timed
timed_none t = record t { circuit = record t.circuit { full = true } }

abbrev pub timed_row : (ℕ → ℕ) → Room → List ModuleRow → ModuleRow → Timed → Timed
timed_row ps z rows r t =
    if rests r t then timed_rest t else (if r.waits then timed_wait rows t else timed_act ps z rows r t)

abbrev pub timed_found : (ℕ → ℕ) → Room → List ModuleRow → Option ModuleRow → Timed → Timed
timed_found ps z rows None t = timed_none t
timed_found ps z rows (Some r) t = timed_row ps z rows r t

-- an edge
abbrev pub timed_edge : (ℕ → ℕ) → Room → List ModuleRow → Timed → Timed
timed_edge ps z rows t =
    if t.circuit.ended || t.circuit.full then timed_rest t else timed_found ps z rows t.row t

-- so many
abbrev pub timed_edges : (ℕ → ℕ) → Room → List ModuleRow → ℕ → Timed → Timed
timed_edges ps z rows zero t = t
timed_edges ps z rows (suc k) t = timed_edges ps z rows k (timed_edge ps z rows t)

-- the start
abbrev pub timed_start : ModuleTable → (ℕ → ℕ → Tagged) → Timed
timed_start T mem = record {
  circuit = row_start T.start mem;
  row = find_row T.rows T.start sees_nothing;
  late = 0;
  seen = false;
  fresh = false;
  changed = true;
  done = false;
}

-- ---- what is asked of rows

-- the row is the one of the key and of what is seen there, or waits there
abbrev pub RowIs : List ModuleRow → Timed → Type 0
RowIs rows t =
    (t.row ≡ find_row rows t.circuit.key (seen_by t.circuit.site t.circuit)) ⊎
    (t.row ≡ Some (waiting_row t.circuit.key t.circuit.site))

-- it is one of these
pub data Among (r : ModuleRow) : List ModuleRow → Type 0 where
  at_front : (rs : List ModuleRow) → Among r (r ∷ rs)
  in_rest : (q : ModuleRow) (rs : List ModuleRow) → Among r rs → Among r (q ∷ rs)

-- something is looked at
abbrev pub something : Site → (sigs boxes : List Tagged) → Bool
something on_sigs ss bs = nat_lt 0 (length ss)
something on_boxes ss bs = nat_lt 0 (length bs)
something w ss bs = true

-- a row that ends the run makes nothing
abbrev pub ends_calm : ModuleRow → Bool
ends_calm r = not r.ends || not (r.makes || opens_fork r.fork)

-- a row of the first key sees nothing, and none waits there
abbrev pub starts_right : ModuleTable → Bool
starts_right T = rows_see T.rows T.start nowhere && not (has_key T.rows T.start && is_waited T.rows T.start)

-- a row that is made finds what it reads
pub record RowRight (ps : ℕ → ℕ) (rows : List ModuleRow) (t : Timed) (r : ModuleRow) : Type 0 where
  pub there : row_there t.circuit r ≡ true
  pub read : read_there ps rows t.circuit r ≡ true
  pub seen : takes_words (Some r) ≡ true → t.seen ≡ true

-- of a run that goes on
pub record TimedRight (ps : ℕ → ℕ) (rows : List ModuleRow) (t : Timed) : Type 0 where
  pub row : RowIs rows t
  pub among : (r : ModuleRow) → t.row ≡ Some r → Among r (found_rows rows)
  pub looks : something t.circuit.site t.circuit.sigs t.circuit.boxes ≡ true
  pub sees : rows_see rows t.circuit.key t.circuit.site ≡ true
  pub reads : t.circuit.read ≡ t.circuit.cells (looked_place t.circuit.site t.circuit.sigs t.circuit.boxes)
  pub right : (r : ModuleRow) → t.row ≡ Some r → r.waits ≡ false → RowRight ps rows t r
