-- What the module does, row by row, without its waits and its widths: keys and shapes are numbers here, and a row is data.
-- A row is found at a key by what is seen there, and it is made as far as there is room. What a list has past its end, and what a fork has
-- kept before it was answered, is anything: here it is 0, and no row of a right table reads it.
use Rattle.std.specs.Prelude.{ℕ, zero, suc, ◌+◌, Bool, true, false, not, ◌&&◌, ◌||◌, List, [], ◌∷◌, length}
use Rattle.std.specs.Prelude.{Option, Some, None, is_some, nat_eq, nat_lt, if◌then◌else◌}
use Rattle.pcf_values.specs.declared.val.Val.{Val}
use Rattle.pcf_values.specs.declared.val.Val.TheVariants.{Number}
use Rattle.pcf_values.specs.Values.{val_op}
use Rattle.verilog_tree.specs.Meaning.{flag}
use Rattle.joined_core.specs.Rows.{Site, nowhere, on_sigs, on_boxes, on_value, is_zero}
use Rattle.joined_core.specs.Circuit.{Room}
use Rattle.joined_module.specs.Rows.{From, from_sig, from_box, from_fork, from_word, part_of_sig, part_of_box, from_new, from_none}
use Rattle.joined_module.specs.Rows.{Operand, the_value, the_kept, a_literal, a_port, Worth, stays, tells, comes_to}
use Rattle.joined_module.specs.Rows.{Sees, sees_nothing, sees_tag, sees_zero, ForkDeed, no_fork, opens, keeps, closes, ModuleRow}
use Rattle.joined_module.specs.Rows.{is_new_cell, row_looks, row_words_read}

-- a pointer: a shape's tag, and a cell's place
pub record Tagged : Type 0 where
  pub tag : ℕ
  pub place : ℕ

abbrev pub tagged : ℕ → ℕ → Tagged
tagged t n = record { tag = t; place = n }

-- an open fork: its boxes, its left answer once that came, and the cells in use when it was opened
pub record RowFork : Type 0 where
  pub boxes : List Tagged
  pub answered : Option Val
  pub top : ℕ

pub record RowCircuit : Type 0 where
  -- where the token is, and what is looked at there
  pub key : ℕ
  pub site : Site
  -- the value of the last answer
  pub value : Val
  pub sigs : List Tagged
  pub boxes : List Tagged
  -- the words of the cell that is looked at
  pub read : ℕ → Tagged
  -- those of each cell, and how many cells are in use
  pub cells : ℕ → ℕ → Tagged
  pub top : ℕ
  -- the innermost first
  pub forks : List RowFork
  pub ended : Bool
  pub full : Bool
  pub moves : ℕ

abbrev pub tagged_at : List Tagged → ℕ → Tagged
tagged_at [] n = tagged 0 0
tagged_at (p ∷ ps) zero = p
tagged_at (p ∷ ps) (suc n) = tagged_at ps n

abbrev pub innermost : List RowFork → RowFork
innermost [] = record { boxes = []; answered = None; top = 0 }
innermost (f ∷ fs) = f

abbrev pub around : List RowFork → List RowFork
around [] = []
around (f ∷ fs) = fs

-- ---- what is seen, and the row that is found

abbrev pub looked_place : Site → (sigs boxes : List Tagged) → ℕ
looked_place on_sigs ss bs = (tagged_at ss 0).place
looked_place on_boxes ss bs = (tagged_at bs 0).place
looked_place w ss bs = 0

abbrev pub seen_by : Site → RowCircuit → Sees
seen_by nowhere D = sees_nothing
seen_by on_sigs D = sees_tag (tagged_at D.sigs 0).tag
seen_by on_boxes D = sees_tag (tagged_at D.boxes 0).tag
seen_by on_value D = sees_zero (is_zero D.value)

abbrev pub same_bit : Bool → Bool → Bool
same_bit true b = b
same_bit false b = not b

abbrev pub same_sees : Sees → Sees → Bool
same_sees sees_nothing sees_nothing = true
same_sees (sees_tag m) (sees_tag n) = nat_eq m n
same_sees (sees_zero b) (sees_zero c) = same_bit b c
same_sees e d = false

-- the first row of this key and of what is seen
abbrev pub find_row : List ModuleRow → ℕ → Sees → Option ModuleRow
find_row [] k e = None
find_row (r ∷ rs) k e = if nat_eq r.key k && same_sees r.sees e then Some r else find_row rs k e

-- ---- what a row makes

abbrev pub answers_deed : ForkDeed → Bool
answers_deed closes = true
answers_deed (keeps x) = true
answers_deed d = false

-- the cell that is made: above those in use, and where a fork is answered above those that were in use when it was opened
abbrev pub base_of : ModuleRow → RowCircuit → ℕ
base_of r D = if answers_deed r.fork then (innermost D.forks).top else D.top

abbrev pub pointer_from : ModuleRow → RowCircuit → From → Tagged
pointer_from r D (from_sig i) = tagged_at D.sigs i
pointer_from r D (from_box i) = tagged_at D.boxes i
pointer_from r D (from_fork i) = tagged_at (innermost D.forks).boxes i
pointer_from r D (from_word i) = D.read i
pointer_from r D (part_of_sig t) = tagged t (tagged_at D.sigs 0).place
pointer_from r D (part_of_box t) = tagged t (tagged_at D.boxes 0).place
pointer_from r D (from_new t) = tagged t (base_of r D)
pointer_from r D (from_none t) = tagged t (base_of r D)

abbrev pub pointers_from : ModuleRow → RowCircuit → List From → List Tagged
pointers_from r D [] = []
pointers_from r D (s ∷ ss) = pointer_from r D s ∷ pointers_from r D ss

abbrev pub value_or_zero : Option Val → Val
value_or_zero None = Number 0
value_or_zero (Some v) = v

-- ports are what they were at reset
abbrev pub operand_value : (ℕ → ℕ) → RowCircuit → Operand → Val
operand_value ps D the_value = D.value
operand_value ps D the_kept = value_or_zero (innermost D.forks).answered
operand_value ps D (a_literal n) = Number n
operand_value ps D (a_port i) = Number (ps i)

abbrev pub worth_value : (ℕ → ℕ) → RowCircuit → Worth → Val
worth_value ps D stays = D.value
worth_value ps D (tells x) = operand_value ps D x
worth_value ps D (comes_to o x y) = val_op o (operand_value ps D x) (operand_value ps D y)

abbrev pub operand_option : (ℕ → ℕ) → RowCircuit → Option Operand → Option Val
operand_option ps D None = None
operand_option ps D (Some x) = Some (operand_value ps D x)

abbrev pub forks_after : (ℕ → ℕ) → ModuleRow → RowCircuit → ForkDeed → List RowFork
forks_after ps r D no_fork = D.forks
forks_after ps r D (opens l b k) = record {
  boxes = pointers_from r D l;
  answered = operand_option ps D k;
  top = base_of r D + (if b then flag r.makes else 0);
} ∷ D.forks
forks_after ps r D (keeps x) = record (innermost D.forks) { answered = Some (operand_value ps D x) } ∷ around D.forks
forks_after ps r D closes = around D.forks

-- the words of the cell that is made
abbrev pub cells_after : ModuleRow → RowCircuit → ℕ → ℕ → Tagged
cells_after r D n = if r.makes && nat_eq n (base_of r D) then tagged_at (pointers_from r D r.words) else D.cells n

-- the place that is looked at next, and the words there
abbrev pub place_after : ModuleRow → RowCircuit → ℕ
place_after r D = looked_place r.site (pointers_from r D r.sigs) (pointers_from r D r.boxes)

abbrev pub read_after : ModuleRow → RowCircuit → ℕ → Tagged
read_after r D = cells_after r D (place_after r D)

abbrev pub row_makes : (ℕ → ℕ) → ModuleRow → RowCircuit → RowCircuit
row_makes ps r D = record {
  key = r.to;
  site = r.site;
  value = worth_value ps D r.worth;
  sigs = pointers_from r D r.sigs;
  boxes = pointers_from r D r.boxes;
  read = read_after r D;
  cells = cells_after r D;
  top = base_of r D + flag r.makes;
  forks = forks_after ps r D r.fork;
  ended = r.ends;
  full = D.full;
  moves = D.moves + r.moves;
}

-- more are in use than there are
abbrev pub too_many : Room → RowCircuit → Bool
too_many z D = nat_lt z.cells D.top || nat_lt z.forks (length D.forks)

abbrev pub if_room : Room → RowCircuit → RowCircuit → RowCircuit
if_room z E D = if too_many z E then record D { full = true } else E

abbrev pub row_made : (ℕ → ℕ) → Room → Option ModuleRow → RowCircuit → RowCircuit
row_made ps z None D = record D { full = true }
row_made ps z (Some r) D = if_room z (row_makes ps r D) D

-- one row; once it has ended, or is full, none
abbrev pub row_clock : (ℕ → ℕ) → Room → List ModuleRow → RowCircuit → RowCircuit
row_clock ps z rows D = if D.ended || D.full then D else row_made ps z (find_row rows D.key (seen_by D.site D)) D

-- so many rows
abbrev pub row_clocks : (ℕ → ℕ) → Room → List ModuleRow → ℕ → RowCircuit → RowCircuit
row_clocks ps z rows zero D = D
row_clocks ps z rows (suc k) D = row_clocks ps z rows k (row_clock ps z rows D)

-- at reset, whatever the memory has
abbrev pub row_start : ℕ → (ℕ → ℕ → Tagged) → RowCircuit
row_start k mem = record {
  key = k;
  site = nowhere;
  value = Number 0;
  sigs = [];
  boxes = [];
  read = mem 0;
  cells = mem;
  top = 0;
  forks = [];
  ended = false;
  full = false;
  moves = 0;
}

-- ---- what a row reads is there

-- a pointer is looked at
abbrev pub has_cell : Site → Bool
has_cell on_sigs = true
has_cell on_boxes = true
has_cell w = false

-- a pointer's source is within the lists; a word, where the looked pointer has a cell, is one of the cells in use
abbrev pub from_there : RowCircuit → From → Bool
from_there D (from_sig i) = nat_lt i (length D.sigs)
from_there D (from_box i) = nat_lt i (length D.boxes)
from_there D (from_fork i) = nat_lt i (length (innermost D.forks).boxes)
from_there D (from_word i) = has_cell D.site && nat_lt (looked_place D.site D.sigs D.boxes) D.top
from_there D (part_of_sig t) = nat_lt 0 (length D.sigs)
from_there D (part_of_box t) = nat_lt 0 (length D.boxes)
from_there D s = true

abbrev pub all_there : RowCircuit → List From → Bool
all_there D [] = true
all_there D (s ∷ ss) = from_there D s && all_there D ss

abbrev pub is_answered : List RowFork → Bool
is_answered [] = false
is_answered (f ∷ fs) = is_some f.answered

abbrev pub operand_there : RowCircuit → Operand → Bool
operand_there D the_kept = is_answered D.forks
operand_there D x = true

abbrev pub is_open : List RowFork → Bool
is_open [] = false
is_open (f ∷ fs) = true

abbrev pub option_there : RowCircuit → Option Operand → Bool
option_there D None = true
option_there D (Some x) = operand_there D x

abbrev pub deed_there : RowCircuit → ForkDeed → Bool
deed_there D no_fork = true
deed_there D (opens l b k) = all_there D l && option_there D k
deed_there D (keeps x) = is_open D.forks && operand_there D x
deed_there D closes = is_open D.forks

abbrev pub worth_there : RowCircuit → Worth → Bool
worth_there D stays = true
worth_there D (tells x) = operand_there D x
worth_there D (comes_to o x y) = operand_there D x && operand_there D y

abbrev pub row_there : RowCircuit → ModuleRow → Bool
row_there D r =
    all_there D r.sigs && (all_there D r.boxes && (all_there D r.words && (deed_there D r.fork && worth_there D r.worth)))

-- ---- what is read of a cell was there before the row

-- a row takes words of the cell that is looked at
abbrev pub takes_words : Option ModuleRow → Bool
takes_words None = false
takes_words (Some r) = nat_lt 0 (row_words_read r)

-- what is looked at next is the new cell, and the row says so; or one that was there before the row; or no word of it is taken
abbrev pub read_there : (ℕ → ℕ) → List ModuleRow → RowCircuit → ModuleRow → Bool
read_there ps rows D r =
    is_new_cell (row_looks r) || (nat_lt (place_after r D) (base_of r D) ||
    not (takes_words (find_row rows r.to (seen_by r.site (row_makes ps r D)))))
