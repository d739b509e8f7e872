-- The numbers of a table do what the circuit over compound cells does, row by row: the statements of `law_row_found`, `law_rows_along`,
-- `law_row_needs`, `law_rows_mean` and `law_rows_at_ports`.
-- A table is right of a net at some numbers of its ports, fits a module, and takes its pointers from within its lists.
use Rattle.std.specs.Prelude.{◌≡◌, ◌⊎◌, ◌≤◌, ℕ, Bool, true, false, List, length, Option, Some, None, nat_lt}
use Rattle.pcf_values.specs.Terms.{TermTree}
use Rattle.cbn_meaning.specs.Meaning.{Means}
use Rattle.net_build.specs.Nets.{NetTree}
use Rattle.net_build.specs.NetOf.{net_of}
use Rattle.interleave_laws.specs.Runs.{Runs}
use Rattle.adequacy_laws.specs.Questions.{Length}
use Rattle.adequacy_laws.specs.Adequacy.{OfEveryProgram}
use Rattle.adequacy_laws.specs.Finished.{Beyond}
use Rattle.circuit_module.specs.Stands.{SmallConstants}
use Rattle.open_net_laws.specs.Numbers.{with_numbers}
use Rattle.joined_rows.specs.Compound.{Pointer}
use Rattle.joined_core.specs.Rows.{Key, Site, on_sigs, on_boxes, Seen, JoinedRow}
use Rattle.joined_core.specs.Right.{IsTable}
use Rattle.joined_core.specs.Listed.{Entry, find, listed, right_table}
use Rattle.joined_core.specs.Numbers.{key_number}
use Rattle.joined_core.specs.Circuit.{Room, joined_circuit}
use Rattle.joined_module.specs.Rows.{ModuleRow, Numbering, numbering, row_sees, module_row, module_rows, rows_fit}
use Rattle.joined_module.specs.Machine.{Tagged, RowCircuit, seen_by, find_row, row_clocks, row_start, row_there, read_there}
use Rattle.joined_numbers.specs.Within.{start_key, rows_within, starts_within}
use Rattle.joined_numbers.specs.At.{number_at, entries_at}
use Rattle.joined_numbers.specs.Ports.{with_ports}
use Rattle.joined_numbers.specs.Put.{put_cells, put}

-- both tables have the row of an entry, or none
abbrev pub SameRow : Numbering → Option JoinedRow → Option ModuleRow → Type 0
SameRow N None None = Unit {0}
SameRow N None (Some m) = ⊥
SameRow N (Some r) None = ⊥
SameRow N (Some r) (Some m) = (e : Entry) × (e.row ≡ r) × (module_row N e ≡ m)

-- at a key and what is seen there the row is found by their numbers
abbrev pub RowFound : Type 0
RowFound = (sites : List (ℕ × Site)) (entries : List Entry) (k : Key) (e : Seen) → let N = numbering sites entries in
    SameRow N (find entries k e) (find_row (module_rows N entries) (N.key k) (row_sees N.tag e))

-- the rows of a table
abbrev pub table_rows : List (ℕ × Site) → List Entry → List ModuleRow
table_rows sites entries = module_rows (numbering sites entries) entries

-- what a memory has, as numbers
abbrev pub memory_of : List (ℕ × Site) → List Entry → (ℕ → ℕ → Pointer) → ℕ → ℕ → Tagged
memory_of sites entries mem = put_cells (numbering sites entries).tag mem

-- so many rows from the start on
abbrev pub rows_run : NetTree → List (ℕ × Site) → List Entry → (ℕ → ℕ) → Room → (ℕ → ℕ → Tagged) → ℕ → RowCircuit
rows_run net sites entries ps z mem k =
    row_clocks ps z (table_rows sites entries) k (row_start (key_number entries (start_key net)) mem)

-- a table that is right of a net at these numbers of its ports, and fits
pub record TableRuns (net : NetTree) (sites : List (ℕ × Site)) (entries : List Entry) (ps : ℕ → ℕ) : Type 0 where
  pub right : IsTable net (listed sites (entries_at ps entries))
  pub fit : rows_fit entries ≡ true
  pub ports : ℕ
  pub within : rows_within ports sites entries ≡ true
  pub start : starts_within net sites ≡ true

-- what holds of every such table, for all sizes and all that the memory may have
abbrev pub OfEveryTable : (NetTree → List (ℕ × Site) → List Entry → (ℕ → ℕ) → Room → (ℕ → ℕ → Pointer) → Type 0) → Type 0
OfEveryTable Says =
    (net : NetTree) → Runs net → (sites : List (ℕ × Site)) (entries : List Entry) (ps : ℕ → ℕ) → TableRuns net sites entries ps →
    (z : Room) (mem : ℕ → ℕ → Pointer) → Says net sites entries ps z mem

-- so many rows are so many cycles of the circuit
abbrev pub RowsAlong : Type 0
RowsAlong = OfEveryTable (λ net sites entries ps z mem. (k : ℕ) →
    rows_run net sites entries ps z (memory_of sites entries mem) k
    ≡ put (numbering sites entries) (joined_circuit net (listed sites (entries_at ps entries)) z mem k))

-- the row that is found then finds what it reads
abbrev pub RowNeeds : Type 0
RowNeeds = OfEveryTable (λ net sites entries ps z mem. (k : ℕ) (r : ModuleRow) →
    let D = rows_run net sites entries ps z (memory_of sites entries mem) k in D.ended ≡ false → D.full ≡ false →
    find_row (table_rows sites entries) D.key (seen_by D.site D) ≡ Some r →
    (row_there D r ≡ true) × (read_there ps (table_rows sites entries) D r ≡ true))

-- and there is something where it is looked
abbrev pub looks_there : RowCircuit → Site → Bool
looks_there D on_sigs = nat_lt 0 (length D.sigs)
looks_there D on_boxes = nat_lt 0 (length D.boxes)
looks_there D w = true

abbrev pub RowLooks : Type 0
RowLooks = OfEveryTable (λ net sites entries ps z mem. (k : ℕ) →
    let D = rows_run net sites entries ps z (memory_of sites entries mem) k in D.full ≡ false → looks_there D D.site ≡ true)

-- what rows tell of a program: once they have ended, its value and how many moves it is long, and before that, that it is longer
pub record RowsTell (m : TermTree) (k : ℕ) (D : RowCircuit) : Type 0 where
  pub means : D.ended ≡ true → Means m D.value
  pub length : D.ended ≡ true → Length (net_of m) D.value D.moves
  pub waits : D.ended ≡ false → Beyond (net_of m) D.moves
  -- each row makes a move at least
  pub goes : D.ended ≡ false → k ≤ D.moves

-- the rows of a program are full or tell it
abbrev pub RowsMean : Type 0
RowsMean = OfEveryProgram (λ m. (sites : List (ℕ × Site)) (entries : List Entry) (ps : ℕ → ℕ) → TableRuns (net_of m) sites entries ps →
    (z : Room) (mem : ℕ → ℕ → Pointer) (k : ℕ) →
    let D = rows_run (net_of m) sites entries ps z (memory_of sites entries mem) k in (D.full ≡ true) ⊎ RowsTell m k D)

-- a table that is right of a net with the ports' own numbers is right of it with any numbers there
abbrev pub RowsAtPorts : Type 0
RowsAtPorts = (net : NetTree) (places vs : List ℕ) → SmallConstants net → length vs ≡ length places → (sites : List (ℕ × Site))
    (entries : List Entry) → right_table (with_ports net places) sites entries ≡ true →
    right_table (with_numbers net places vs) sites (entries_at (number_at vs) entries) ≡ true
