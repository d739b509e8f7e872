-- A row of the module as fields: numbers of so many bits, each in a register of its own.
-- A pointer's place in a list, in a new cell or in a fork is a slot: its field `_by` says which of the slot's sources it has in this row,
-- and `_tag` the shape where the source doesn't have it. Sources that no row has at a slot aren't there.
use Rattle.std.specs.Prelude.{ℕ, zero, suc, ◌+◌, ◌-◌, max, Bool, true, false, not, ◌&&◌, ◌||◌, List, [], ◌∷◌, ◌++◌, length}
use Rattle.std.specs.Prelude.{Option, Some, None, nat_eq, nat_lt, if◌then◌else◌}
use Prim.Native.String.{String}
use Rattle.pcf_values.specs.declared.operator.Operator.{Operator}
use Rattle.pcf_values.specs.declared.operator.Operator.TheVariants.{Minus, Times}
use Rattle.joined_core.specs.Rows.{Site, on_value}
use Rattle.verilog_tree.specs.Tree.{count, Expr, num, sized, name, part, cat, pick, test, same, Width, one, upto}
use Rattle.verilog_tree.specs.Meaning.{flag}
use Rattle.circuit_module.specs.Sizes.{bits_for}
use Rattle.joined_module.specs.Names.{held_name, sig_name, box_name, word_name, fork_box_name, next_sig_name, next_box_name}
use Rattle.joined_module.specs.Names.{open_box_name}
use Rattle.joined_module.specs.Names.{new_word_name, by_name, tag_name, number_name}
use Rattle.joined_module.specs.Rows.{From, from_sig, from_box, from_fork, from_word, part_of_sig, part_of_box, from_new, from_none}
use Rattle.joined_module.specs.Rows.{from_at, is_new_cell, opened_boxes, row_words_read}
use Rattle.joined_module.specs.Rows.{Operand, the_value, the_kept, a_literal, a_port, Worth, stays, tells, comes_to}
use Rattle.joined_module.specs.Rows.{Sees, sees_tag, ForkDeed, opens, keeps, closes, ModuleRow, row_looks}

-- the bits for numbers up to n, of which there is one at least
abbrev pub bits_upto : ℕ → ℕ
bits_upto n = max 1 (bits_for (suc n))

-- a vector of so many bits, of which there is one at least
abbrev pub vector_wide : ℕ → Width
vector_wide n = upto (count (n - 1))

-- the most that rows have, and whether one has it
abbrev pub most_by : (ModuleRow → ℕ) → List ModuleRow → ℕ
most_by f [] = 0
most_by f (r ∷ rs) = max (f r) (most_by f rs)

abbrev pub some_row : (ModuleRow → Bool) → List ModuleRow → Bool
some_row f [] = false
some_row f (r ∷ rs) = f r || some_row f rs

-- a field: how many bits it has, and how it is declared; its number where there is no row, and that of a row
pub record Field : Type 0 where
  pub title : String
  pub bits : ℕ
  pub wide : Width
  pub idle : ℕ
  pub at : ModuleRow → ℕ

abbrev pub flag_field : String → (ModuleRow → Bool) → Field
flag_field x f = record { title = x; bits = 1; wide = one; idle = 0; at = λ r. flag (f r) }

abbrev pub number_field : List ModuleRow → String → (ModuleRow → ℕ) → Field
number_field rows x f =
    record { title = x; bits = bits_upto (most_by f rows); wide = vector_wide (bits_upto (most_by f rows)); idle = 0; at = f }

-- ---- sources of pointers

-- a source without its tag
abbrev pub kind_of_from : From → From
kind_of_from (part_of_sig t) = part_of_sig 0
kind_of_from (part_of_box t) = part_of_box 0
kind_of_from (from_new t) = from_new 0
kind_of_from (from_none t) = from_new 0
kind_of_from s = s

-- its tag, where it has one
abbrev pub tag_of_from : From → Option ℕ
tag_of_from (part_of_sig t) = Some t
tag_of_from (part_of_box t) = Some t
tag_of_from (from_new t) = Some t
tag_of_from (from_none t) = Some t
tag_of_from s = None

abbrev pub same_from : From → From → Bool
same_from (from_sig i) (from_sig j) = nat_eq i j
same_from (from_box i) (from_box j) = nat_eq i j
same_from (from_fork i) (from_fork j) = nat_eq i j
same_from (from_word i) (from_word j) = nat_eq i j
same_from (part_of_sig i) (part_of_sig j) = nat_eq i j
same_from (part_of_box i) (part_of_box j) = nat_eq i j
same_from (from_new i) (from_new j) = nat_eq i j
same_from (from_none i) (from_none j) = nat_eq i j
same_from s t = false

-- the place of a source among these, or their count
abbrev pub from_place : List From → From → ℕ
from_place [] s = 0
from_place (t ∷ ts) s = if same_from t s then 0 else suc (from_place ts s)

abbrev pub with_from : Option From → List From → List From
with_from None ss = ss
with_from (Some s) ss = if nat_lt (from_place ss (kind_of_from s)) (length ss) then ss else kind_of_from s ∷ ss

-- a slot: what each row has there, if it has anything
pub record Slot : Type 0 where
  pub title : String
  pub source : ModuleRow → Option From

-- the kinds of source that some row has there
abbrev pub kinds_at : Slot → List ModuleRow → List From
kinds_at s [] = []
kinds_at s (r ∷ rs) = with_from (s.source r) (kinds_at s rs)

abbrev pub place_or : ℕ → (From → ℕ) → Option From → ℕ
place_or n f None = n
place_or n f (Some s) = f s

abbrev pub tag_else : ℕ → Option ℕ → ℕ
tag_else n None = n
tag_else n (Some t) = t

abbrev pub tag_or : ℕ → Option From → ℕ
tag_or n None = n
tag_or n (Some s) = tag_else n (tag_of_from s)

-- the first tag that a row has there
abbrev pub first_tag : Slot → List ModuleRow → ℕ
first_tag s [] = 0
first_tag s (r ∷ rs) = tag_or (first_tag s rs) (s.source r)

-- both fields of a slot
abbrev pub by_field : List ModuleRow → Slot → Field
by_field rows s =
    number_field rows (by_name s.title) (λ r. place_or 0 (λ t. from_place (kinds_at s rows) (kind_of_from t)) (s.source r))

abbrev pub tag_field : (bits : ℕ) → List ModuleRow → Slot → Field
tag_field b rows s = record {
  title = tag_name s.title;
  bits = b;
  wide = vector_wide b;
  idle = first_tag s rows;
  at = λ r. tag_or (first_tag s rows) (s.source r);
}

-- the pointer of a source: place and tag, of so many bits
abbrev pub source_expr : (place tag : ℕ) → Expr → From → Expr
source_expr p t e (from_sig i) = name (sig_name i)
source_expr p t e (from_box i) = name (box_name i)
source_expr p t e (from_fork i) = name (fork_box_name i)
source_expr p t e (from_word i) = name (word_name i)
source_expr p t e (part_of_sig n) = cat (part (sig_name 0) (count (p + t - 1)) (count t)) e
source_expr p t e (part_of_box n) = cat (part (box_name 0) (count (p + t - 1)) (count t)) e
source_expr p t e (from_new n) = cat (name "base") e
source_expr p t e (from_none n) = cat (name "base") e

-- one of some, by their place
abbrev pub picked : Expr → (bits from : ℕ) → List Expr → Expr
picked e b n [] = num 0
picked e b n (x ∷ []) = x
picked e b n (x ∷ y ∷ xs) = pick (test same e (sized b n)) x (picked e b (suc n) (y ∷ xs))

abbrev pub sources_exprs : (place tag : ℕ) → Expr → List From → List Expr
sources_exprs p t e [] = []
sources_exprs p t e (s ∷ ss) = source_expr p t e s ∷ sources_exprs p t e ss

abbrev pub slot_expr : (place tag : ℕ) → List ModuleRow → Slot → Expr
slot_expr p t rows s =
    picked (name (by_name s.title)) (by_field rows s).bits 0 (sources_exprs p t (name (tag_name s.title)) (kinds_at s rows))

-- none where it is seen later
abbrev pub looked_from : ModuleRow → Option From
looked_from r = if is_new_cell (row_looks r) then None else row_looks r

abbrev pub sig_slot : ℕ → Slot
sig_slot i = record { title = next_sig_name i; source = λ r. from_at r.sigs i }

abbrev pub box_slot : ℕ → Slot
box_slot i = record { title = next_box_name i; source = λ r. from_at r.boxes i }

abbrev pub open_slot : ℕ → Slot
open_slot i = record { title = open_box_name i; source = λ r. from_at (opened_boxes r.fork) i }

abbrev pub word_slot : ℕ → Slot
word_slot i = record { title = new_word_name i; source = λ r. if r.makes then from_at r.words i else None }

abbrev pub looked_slot : Slot
looked_slot = record { title = "looked"; source = looked_from }

-- so many slots, from the i-th on
abbrev pub slots_from : (ℕ → Slot) → (i n : ℕ) → List Slot
slots_from f i zero = []
slots_from f i (suc n) = f i ∷ slots_from f (suc i) n

-- ---- counts of a table

abbrev pub sig_count : List ModuleRow → ℕ
sig_count rows = most_by (λ r. length r.sigs) rows

abbrev pub box_count : List ModuleRow → ℕ
box_count rows = most_by (λ r. length r.boxes) rows

abbrev pub fork_count : List ModuleRow → ℕ
fork_count rows = most_by (λ r. length (opened_boxes r.fork)) rows

-- words of a cell: as many as are read
abbrev pub word_count : List ModuleRow → ℕ
word_count rows = most_by row_words_read rows

abbrev pub all_slots : List ModuleRow → List Slot
all_slots rows =
    slots_from sig_slot 0 (sig_count rows) ++ (slots_from box_slot 0 (box_count rows) ++ (slots_from open_slot 0 (fork_count rows) ++
    (slots_from word_slot 0 (word_count rows) ++ looked_slot ∷ [])))

-- the bits of a tag
abbrev pub tag_seen : Sees → ℕ
tag_seen (sees_tag t) = t
tag_seen e = 0

abbrev pub seen_tag : ModuleRow → ℕ
seen_tag r = tag_seen r.sees

abbrev pub most_tag : List Slot → List ModuleRow → ℕ
most_tag [] rows = 0
most_tag (s ∷ ss) rows = max (most_by (λ r. tag_or 0 (s.source r)) rows) (most_tag ss rows)

abbrev pub tag_bits : List ModuleRow → ℕ
tag_bits rows = bits_upto (max (most_by seen_tag rows) (most_tag (all_slots rows) rows))

-- ---- operands

abbrev pub kept_operand : ForkDeed → Option Operand
kept_operand (opens l b k) = k
kept_operand (keeps x) = Some x
kept_operand d = None

abbrev pub worth_first : Worth → Option Operand
worth_first stays = None
worth_first (tells x) = Some x
worth_first (comes_to o x y) = Some x

abbrev pub worth_second : Worth → Option Operand → Option Operand
worth_second (comes_to o x y) k = Some y
worth_second w k = k

abbrev pub first_operand : ModuleRow → Option Operand
first_operand r = worth_first r.worth

-- the second one, or what is kept at a fork
abbrev pub second_operand : ModuleRow → Option Operand
second_operand r = worth_second r.worth (kept_operand r.fork)

-- an operand without its number
abbrev pub kind_of_operand : Operand → Operand
kind_of_operand (a_literal n) = a_literal 0
kind_of_operand x = x

abbrev pub same_operand : Operand → Operand → Bool
same_operand the_value the_value = true
same_operand the_kept the_kept = true
same_operand (a_literal m) (a_literal n) = nat_eq m n
same_operand (a_port m) (a_port n) = nat_eq m n
same_operand x y = false

abbrev pub operand_place : List Operand → Operand → ℕ
operand_place [] x = 0
operand_place (y ∷ ys) x = if same_operand y x then 0 else suc (operand_place ys x)

abbrev pub with_operand : Option Operand → List Operand → List Operand
with_operand None xs = xs
with_operand (Some x) xs = if nat_lt (operand_place xs (kind_of_operand x)) (length xs) then xs else kind_of_operand x ∷ xs

-- where an operand of the unit comes from
pub record Input : Type 0 where
  pub title : String
  pub source : ModuleRow → Option Operand

abbrev pub first_input : Input
first_input = record { title = "first"; source = first_operand }

abbrev pub second_input : Input
second_input = record { title = "second"; source = second_operand }

abbrev pub operands_at : Input → List ModuleRow → List Operand
operands_at s [] = []
operands_at s (r ∷ rs) = with_operand (s.source r) (operands_at s rs)

abbrev pub operand_number : List Operand → Option Operand → ℕ
operand_number xs None = 0
operand_number xs (Some x) = operand_place xs (kind_of_operand x)

abbrev pub operand_field : List ModuleRow → Input → Field
operand_field rows s = number_field rows (by_name s.title) (λ r. operand_number (operands_at s rows) (s.source r))

-- its number; where it has none, the first that some row has
abbrev pub number_or : ℕ → Option Operand → ℕ
number_or n (Some (a_literal m)) = m
number_or n x = n

abbrev pub first_number : Input → List ModuleRow → ℕ
first_number s [] = 0
first_number s (r ∷ rs) = number_or (first_number s rs) (s.source r)

abbrev pub literal_field : List ModuleRow → Input → Field
literal_field rows s = record {
  title = number_name s.title;
  bits = bits_upto (most_by (λ r. number_or 0 (s.source r)) rows);
  wide = vector_wide (bits_upto (most_by (λ r. number_or 0 (s.source r)) rows));
  idle = first_number s rows;
  at = λ r. number_or (first_number s rows) (s.source r);
}

-- 65 bits of an operand
abbrev pub operand_expr : (bits : ℕ) → Expr → Operand → Expr
operand_expr b e the_value = name "result"
operand_expr b e the_kept = name "kept"
operand_expr b e (a_literal n) = cat (sized (65 - b) 0) e
operand_expr b e (a_port i) = cat (sized 1 0) (name (held_name i))

abbrev pub operands_exprs : (bits : ℕ) → Expr → List Operand → List Expr
operands_exprs b e [] = []
operands_exprs b e (x ∷ xs) = operand_expr b e x ∷ operands_exprs b e xs

abbrev pub input_expr : List ModuleRow → Input → Expr
input_expr rows s =
    picked (name (by_name s.title)) (operand_field rows s).bits 0
    (operands_exprs (literal_field rows s).bits (name (number_name s.title)) (operands_at s rows))

-- ---- what a row does

abbrev pub changes : Worth → Bool
changes stays = false
changes w = true

abbrev pub is_kept : Option Operand → Bool
is_kept None = false
is_kept (Some x) = true

-- no number may be on its way: the value is used, another one takes its place, or an operand is kept at a fork
abbrev pub needs_value : ModuleRow → Bool
needs_value r = changes r.worth || is_kept (kept_operand r.fork)

abbrev pub at_value : Site → Bool
at_value on_value = true
at_value w = false

-- whether it is 0 has to be known
abbrev pub tests_value : ModuleRow → Bool
tests_value r = at_value r.site && not (changes r.worth)

-- what is seen at the next key is seen an edge later: a value that the row makes, or a word of its new cell
abbrev pub sees_later : ModuleRow → Bool
sees_later r = (at_value r.site && changes r.worth) || is_new_cell (row_looks r)

abbrev pub takes_operand : Worth → Bool
takes_operand (tells x) = true
takes_operand w = false

abbrev pub makes_number : Worth → Bool
makes_number (comes_to o x y) = true
makes_number w = false

abbrev pub is_minus : Operator → Bool
is_minus Minus = true
is_minus o = false

abbrev pub is_times : Operator → Bool
is_times Times = true
is_times o = false

abbrev pub subtracts_in : Worth → Bool
subtracts_in (comes_to o x y) = is_minus o
subtracts_in w = false

abbrev pub multiplies_in : Worth → Bool
multiplies_in (comes_to o x y) = is_times o
multiplies_in w = false

abbrev pub opens_fork : ForkDeed → Bool
opens_fork (opens l b k) = true
opens_fork d = false

abbrev pub opens_above : ForkDeed → Bool
opens_above (opens l b k) = b
opens_above d = false

abbrev pub closes_fork : ForkDeed → Bool
closes_fork closes = true
closes_fork d = false

abbrev pub answers_in : ForkDeed → Bool
answers_in closes = true
answers_in (keeps x) = true
answers_in d = false

-- the row that is found says so; where none is found it doesn't
abbrev pub none_field : Field
none_field = record { title = "none"; bits = 1; wide = one; idle = 1; at = λ r. 0 }

-- where it goes, in as many bits as any row's key has
abbrev pub to_field : List ModuleRow → Field
to_field rows = record {
  title = "to";
  bits = bits_upto (most_by (λ r. max r.to r.key) rows);
  wide = vector_wide (bits_upto (most_by (λ r. max r.to r.key) rows));
  idle = 0;
  at = λ r. r.to;
}

-- a row's moves, as wide at least as the sum of which they are a part
abbrev pub count_field : List ModuleRow → Field
count_field rows = record {
  title = "counts";
  bits = max 9 (bits_upto (most_by (λ r. r.moves) rows));
  wide = vector_wide (max 9 (bits_upto (most_by (λ r. r.moves) rows)));
  idle = 0;
  at = λ r. r.moves;
}

abbrev pub waits_field : Field
waits_field = flag_field "waits" (λ r. r.waits)

abbrev pub later_field : Field
later_field = flag_field "later" sees_later

abbrev pub tests_field : Field
tests_field = flag_field "tests" tests_value

abbrev pub needs_field : Field
needs_field = flag_field "needs" needs_value

abbrev pub ends_field : Field
ends_field = flag_field "ends" (λ r. r.ends)

abbrev pub makes_field : Field
makes_field = flag_field "makes" (λ r. r.makes)

abbrev pub opens_field : Field
opens_field = flag_field "opens" (λ r. opens_fork r.fork)

abbrev pub above_field : Field
above_field = flag_field "above" (λ r. opens_above r.fork)

abbrev pub keeps_field : Field
keeps_field = flag_field "keeps" (λ r. is_kept (kept_operand r.fork))

abbrev pub closes_field : Field
closes_field = flag_field "closes" (λ r. closes_fork r.fork)

abbrev pub touches_field : Field
touches_field = flag_field "touches" (λ r. answers_in r.fork)

abbrev pub takes_field : Field
takes_field = flag_field "takes" (λ r. takes_operand r.worth)

abbrev pub number_made_field : Field
number_made_field = flag_field "computes" (λ r. makes_number r.worth)

abbrev pub subtracts_field : Field
subtracts_field = flag_field "subtracts" (λ r. subtracts_in r.worth)

abbrev pub multiplies_field : Field
multiplies_field = flag_field "multiplies" (λ r. multiplies_in r.worth)

-- the fields of slots
abbrev pub slot_fields : (tag : ℕ) → List ModuleRow → List Slot → List Field
slot_fields t rows [] = []
slot_fields t rows (s ∷ ss) = by_field rows s ∷ tag_field t rows s ∷ slot_fields t rows ss

abbrev pub input_fields : List ModuleRow → List Input → List Field
input_fields rows [] = []
input_fields rows (s ∷ ss) = operand_field rows s ∷ literal_field rows s ∷ input_fields rows ss

-- all of them
abbrev pub row_fields : List ModuleRow → List Field
row_fields rows =
    none_field ∷ to_field rows ∷ count_field rows ∷ waits_field ∷ later_field ∷ tests_field ∷ needs_field ∷ ends_field ∷ makes_field ∷
    opens_field ∷ above_field ∷ keeps_field ∷ closes_field ∷ touches_field ∷ takes_field ∷ number_made_field ∷ subtracts_field ∷
    multiplies_field ∷ (input_fields rows (first_input ∷ second_input ∷ []) ++ slot_fields (tag_bits rows) rows (all_slots rows))
