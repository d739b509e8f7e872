-- Fields have room for each row's numbers, and after the block that settles they are those of the row that is found: the statements of
-- `law_fields_fit`, `law_next_row`, `law_row_taken` and `law_rows_land`.
use Rattle.std.specs.Prelude.{◌≡◌, ◌<◌, ◌≤◌, ℕ, ◌^◌, Bool, true, false, ◌&&◌, List}
use Prim.Native.String.{String}
use Rattle.joined_core.specs.Rows.{Site}
use Rattle.joined_core.specs.Listed.{Entry}
use Rattle.verilog_tree.specs.Meaning.{Scope, Store, nonzero, run}
use Rattle.joined_module.specs.Rows.{Sees, ModuleRow, numbering, module_rows}
use Rattle.joined_module.specs.Fields.{Field, to_field, tag_bits, row_fields}
use Rattle.joined_module.specs.Names.{found}
use Rattle.joined_module.specs.Module.{is_waited, found_rows}
use Rattle.joined_found.specs.Found.{Each, next_row, next_field, OfFound, sees_at, rows_see, rows_land, rows_keyed, each_row}
use Rattle.joined_found.specs.Found.{entries_see, find_stmt, SeenIn, no_found, fields_apart}

-- each number of a field is below 2 to the power of its bits
abbrev pub FieldFits : List ModuleRow → Field → Type 0
FieldFits rows f = (f.idle < 2 ^ f.bits) × Each (λ r. f.at r < 2 ^ f.bits) rows

abbrev pub FieldsFit : Type 0
FieldsFit = (rows : List ModuleRow) → Each (FieldFits rows) (row_fields rows)

-- the registers of what is found are as wide as their fields, and what is looked at has a tag
pub record FoundScope (P : Scope) (R : List ModuleRow) : Type 0 where
  pub fields : Each (λ f. P.width (found f.title) ≡ f.bits) (row_fields R)
  pub looked : tag_bits R ≤ P.width "looked"

-- what the block reads: the key, and what is seen there unless that comes later
pub record Looks (R rows : List ModuleRow) (S : Store) (later : Bool) (k : ℕ) (w : Site) (e : Sees) : Type 0 where
  pub goes : S.vec "goes" ≡ k
  pub low : k < 2 ^ (to_field R).bits
  pub late : nonzero (S.vec "later") ≡ later
  pub shows : sees_at w e ≡ true
  pub sees : rows_see rows k w ≡ true
  pub seen : (later && is_waited rows k) ≡ false → SeenIn (tag_bits R) S e

-- after the block each field is that of the row that is found, and all else is as it was
pub record IsFound (R rows : List ModuleRow) (S T : Store) (later : Bool) (k : ℕ) (e : Sees) : Type 0 where
  pub fields : Each (λ f. T.vec (found f.title) ≡ next_field f (next_row rows later k e)) (row_fields R)
  pub others : (x : String) → no_found (row_fields R) x ≡ true → T.vec x ≡ S.vec x
  pub mem : T.mem ≡ S.mem

abbrev pub NextRow : Type 0
NextRow = (rows : List ModuleRow) → rows_keyed rows ≡ true → fields_apart (row_fields (found_rows rows)) ≡ true →
    (P : Scope) → FoundScope P (found_rows rows) → (S : Store) (later : Bool) (k : ℕ) (w : Site) (e : Sees) →
    Looks (found_rows rows) rows S later k w e →
    IsFound (found_rows rows) rows S (run P (find_stmt (found_rows rows)) S) later k e

-- what holds of each row that the module has holds of the one that is found
abbrev pub RowTaken : Type 0
RowTaken = (p : ModuleRow → Bool) (rows : List ModuleRow) → rows_keyed rows ≡ true → each_row p (found_rows rows) ≡ true →
    (later : Bool) (k : ℕ) (e : Sees) → OfFound (λ r. p r ≡ true) (next_row rows later k e)

-- the rows of entries that see what their sites show come to rows that see what they look at, and their keys are below their number
abbrev pub RowsLand : Type 0
RowsLand = (sites : List (ℕ × Site)) (entries : List Entry) → entries_see sites entries ≡ true →
    (rows_land (module_rows (numbering sites entries) entries) ≡ true)
    × (rows_keyed (module_rows (numbering sites entries) entries) ≡ true)
