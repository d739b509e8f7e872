-- The row that is found next, and what a table has so that it is the one of the key and of what is seen there.
use Rattle.std.specs.Prelude.{◌≡◌, ℕ, Bool, true, false, not, ◌&&◌, ◌||◌, List, [], ◌∷◌, length, Option, Some, None}
use Rattle.std.specs.Prelude.{nat_eq, nat_lt, if◌then◌else◌}
use Prim.Native.String.{String}
use lib.Text.{eqt}
use Rattle.joined_core.specs.Rows.{Site, nowhere, on_sigs, on_boxes, on_value, Seen, nothing, shaped, zero_is}
use Rattle.joined_core.specs.Listed.{Entry, site_of}
use Rattle.verilog_tree.specs.Tree.{name, Stmt, seq, cases}
use Rattle.verilog_tree.specs.Meaning.{Store, flag, fit}
use Rattle.circuit_module.specs.Fixed.{block}
use Rattle.joined_module.specs.Rows.{Sees, sees_nothing, sees_tag, sees_zero, ModuleRow}
use Rattle.joined_module.specs.Names.{found}
use Rattle.joined_module.specs.Fields.{Field, some_row, to_field, tag_bits, row_fields}
use Rattle.joined_module.specs.Module.{is_waited, waiting_row, site_at, idle_sets, key_arms}
use Rattle.joined_module.specs.Machine.{find_row}

-- it holds of each
abbrev pub Each : {A : Type 0} → (A → Type 0) → List A → Type 0
Each p [] = Unit {0}
Each p (x ∷ xs) = p x × Each p xs

-- the same as a test of rows
abbrev pub each_row : (ModuleRow → Bool) → List ModuleRow → Bool
each_row f [] = true
each_row f (r ∷ rs) = f r && each_row f rs

-- some row has this key
abbrev pub has_key : List ModuleRow → ℕ → Bool
has_key rows k = some_row (λ r. nat_eq r.key k) rows

-- the row that waits at a key that has rows
abbrev pub waiting_found : List ModuleRow → ℕ → Option ModuleRow
waiting_found rows k = if has_key rows k then Some (waiting_row k (site_at rows k)) else None

-- the row that is found: where what is seen comes later, the one that waits
abbrev pub next_row : List ModuleRow → (later : Bool) → ℕ → Sees → Option ModuleRow
next_row rows later k e = if later && is_waited rows k then waiting_found rows k else find_row rows k e

-- a field of the row that is found
abbrev pub next_field : Field → Option ModuleRow → ℕ
next_field f None = f.idle
next_field f (Some r) = f.at r

-- a row that was found is so
abbrev pub OfFound : (ModuleRow → Type 0) → Option ModuleRow → Type 0
OfFound p None = Unit {0}
OfFound p (Some r) = p r

-- ---- what a table has

-- this is seen at such a site
abbrev pub sees_at : Site → Sees → Bool
sees_at nowhere sees_nothing = true
sees_at on_sigs (sees_tag n) = true
sees_at on_boxes (sees_tag n) = true
sees_at on_value (sees_zero b) = true
sees_at w e = false

-- each row of the key sees what its site shows
abbrev pub rows_see : List ModuleRow → ℕ → Site → Bool
rows_see rows k w = each_row (λ r. not (nat_eq r.key k) || sees_at w r.sees) rows

abbrev pub same_site : Site → Site → Bool
same_site nowhere nowhere = true
same_site on_sigs on_sigs = true
same_site on_boxes on_boxes = true
same_site on_value on_value = true
same_site v w = false

-- a token that comes to this key looks there, as all that come do, and as the rows there see
abbrev pub lands_at : List ModuleRow → ℕ → Site → Bool
lands_at rows k w = not (has_key rows k) || (rows_see rows k w && same_site (site_at rows k) w)

-- each row that goes on comes to rows that see what it looks at
abbrev pub rows_land : List ModuleRow → Bool
rows_land rows = each_row (λ r. r.ends || lands_at rows r.to r.site) rows

-- no row waits, and each key is below the number of rows
abbrev pub rows_keyed : List ModuleRow → Bool
rows_keyed rows = each_row (λ r. not r.waits && nat_lt r.key (length rows)) rows

-- the same of entries: each sees what its site shows
abbrev pub entry_sees : Site → Seen → Bool
entry_sees nowhere nothing = true
entry_sees on_sigs (shaped x) = true
entry_sees on_boxes (shaped x) = true
entry_sees on_value (zero_is b) = true
entry_sees w e = false

abbrev pub entries_see : List (ℕ × Site) → List Entry → Bool
entries_see sites [] = true
entries_see sites (e ∷ es) = entry_sees (site_of sites e.key) e.seen && entries_see sites es

-- ---- what the block of the rows finds

-- the block
abbrev pub find_stmt : List ModuleRow → Stmt
find_stmt R =
    seq (block (idle_sets (row_fields R)))
    (cases (name "goes") (key_arms (to_field R).bits (tag_bits R) (row_fields R) R 0 (length R)))

-- what is seen, in the wires
abbrev pub SeenIn : (bits : ℕ) → Store → Sees → Type 0
SeenIn t S sees_nothing = Unit {0}
SeenIn t S (sees_tag n) = fit t (S.vec "looked") ≡ n
SeenIn t S (sees_zero b) = S.vec "nonzero" ≡ flag (not b)

-- none of these is the name of a field that is found
abbrev pub no_found : List Field → String → Bool
no_found [] x = true
no_found (f ∷ fs) x = not (eqt (found f.title) x) && no_found fs x

-- names of fields differ
abbrev pub fields_apart : List Field → Bool
fields_apart [] = true
fields_apart (f ∷ fs) = no_found fs (found f.title) && fields_apart fs
