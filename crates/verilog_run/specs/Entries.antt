-- What a table holds: under each name and at each place a number. The lists of the table are told apart by the names; a name is looked
-- for in one of them, and there the first cell of that name counts.
use Rattle.std.specs.Prelude.{◌≡◌, ℕ, zero, suc, ◌+◌, ◌-◌, ◌*◌, ◌/◌, ◌%◌, nat_eq, ◌&&◌, List, [], ◌∷◌, map, length, get_or, codes, Vec}
use Rattle.std.specs.declared.alloc.Global.{Global}
use Prim.Native.String.{String}
use lib.Text.{eqt}
use Rattle.verilog_tree.specs.Meaning.{chosen}
use Rattle.verilog_tree.specs.Names.{text_of}
use Rattle.verilog_run.specs.declared.cells.Cell.{Cell}
use Rattle.verilog_run.specs.declared.table.Table.{Table}

-- a name
abbrev pub Name : Type 0
Name = String

-- the numbers under a name
pub record Entry : Type 0 where
  pub name : String
  pub numbers : List ℕ

-- what a cell holds
abbrev pub entry : Cell → Entry
entry c = record { name = text_of c.name.items; numbers = c.numbers.items }

-- what cells hold
abbrev pub entries : List Cell → List Entry
entries cells = map entry cells

-- the number under a name at a place, and 0 where there is none
abbrev pub found : List Entry → String → ℕ → ℕ
found [] x i = 0
found (e ∷ es) x i = chosen (eqt e.name x) (get_or e.numbers i 0) (found es x i)

-- a cell that is made
abbrev pub new_entry : String → List ℕ → Entry
new_entry x ns = record { name = x; numbers = ns }

-- the numbers of the k-th
abbrev pub numbers_at : List Entry → ℕ → List ℕ
numbers_at [] k = []
numbers_at (e ∷ es) zero = e.numbers
numbers_at (e ∷ es) (suc k) = numbers_at es k

-- other numbers in the k-th
abbrev pub put_at : List Entry → ℕ → List ℕ → List Entry
put_at [] k ns = []
put_at (e ∷ es) zero ns = new_entry e.name ns ∷ es
put_at (e ∷ es) (suc k) ns = e ∷ put_at es k ns

-- the same numbers as before, but for one place
abbrev pub Puts : List ℕ → List ℕ → ℕ → ℕ → Type 0
Puts new old i n = (j : ℕ) → get_or new j 0 ≡ chosen (nat_eq i j) n (get_or old j 0)

-- the same as before, but for one name and place, which has this number
abbrev pub Holds : List Entry → List Entry → String → ℕ → ℕ → Type 0
Holds new old x i n = (y : String) (j : ℕ) → found new y j ≡ chosen (eqt x y && nat_eq i j) n (found old y j)

-- which of 256 lists has the cell of a name, by its length, its first byte, one in the middle and the last
abbrev pub slot_of : List ℕ → ℕ
slot_of bs =
    (13 * (length bs % 256) + 31 * get_or bs 0 0 + 9 * get_or bs (length bs / 2) 0 + 11 * get_or bs (length bs - 1) 0) % 256

-- the same of a text
abbrev pub slot : String → ℕ
slot x = slot_of (codes x)

-- what lists of cells hold
abbrev pub lists_of : List (Vec Cell Global) → List (List Entry)
lists_of ls = map (λ l. entries l.items) ls

-- the lists of a table
abbrev pub rows : Table → List (List Entry)
rows t = lists_of t.lists.items

-- the number under a name at a place of a table
abbrev pub under : List (List Entry) → String → ℕ → ℕ
under ls x i = found (get_or ls (slot x) []) x i

-- the same as before, but for one name and place, which has this number
abbrev pub TableHolds : List (List Entry) → List (List Entry) → String → ℕ → ℕ → Type 0
TableHolds new old x i n = (y : String) (j : ℕ) → under new y j ≡ chosen (eqt x y && nat_eq i j) n (under old y j)
