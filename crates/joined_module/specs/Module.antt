-- The module that runs a table of joined rows over compound cells, with a port for each argument and numbers that are late.
-- At an edge the row that was found is made, unless it rests: until the value is there that it wants, or what it wants of a fork. Then
-- nothing changes but the unit of numbers. The row at which the token comes is found in the same cycle, by its key and by what is seen
-- there. A row that waits stands where that is seen an edge later; it makes no move.
use Rattle.std.specs.Prelude.{ℕ, zero, suc, ◌+◌, ◌-◌, ◌*◌, ◌^◌, max, Bool, true, false, not, ◌&&◌, List, [], ◌∷◌, ◌++◌, length}
use Rattle.std.specs.Prelude.{nat_eq, if◌then◌else◌}
use Prim.Native.String.{String}
use Rattle.joined_core.specs.Rows.{Site, nowhere}
use Rattle.joined_core.specs.Circuit.{Room}
use Rattle.verilog_tree.specs.Tree.{count, plus, minus, same, both, one_of, Expr, num, sized, name, bit, part, word, cat, two, test}
use Rattle.verilog_tree.specs.Tree.{logic, none, any, pick, word_at, Stmt, skip, put, seq, branch, cases, Arms, otherwise, arm}
use Rattle.verilog_tree.specs.Tree.{Item, note, gap, constant, output, input, reg, memory, wire, settles, clocked, one, upto}
use Rattle.circuit_module.specs.Fixed.{set, block}
use Rattle.joined_module.specs.Names.{sig_name, box_name, word_name, fork_box_name, next_sig_name, next_box_name, open_box_name}
use Rattle.joined_module.specs.Names.{new_word_name, found}
use Rattle.joined_module.specs.Rows.{Sees, sees_nothing, sees_tag, sees_zero, no_fork, stays, ModuleRow}
use Rattle.joined_module.specs.Fields.{bits_upto, vector_wide, some_row, Field, Slot, slot_expr, all_slots, sig_count}
use Rattle.joined_module.specs.Fields.{box_count}
use Rattle.joined_module.specs.Fields.{fork_count, word_count, tag_bits, first_input, second_input, input_expr, sees_later, multiplies_in}
use Rattle.joined_module.specs.Fields.{to_field, row_fields}
use Rattle.joined_module.specs.Ports.{arg_inputs, held_regs, held_sets}
use Rattle.joined_module.specs.Unit.{unit_registers, operand_wires_of, unit_wires, unit_stmt}

-- the rows with the key at which the run begins
pub record ModuleTable : Type 0 where
  pub rows : List ModuleRow
  pub start : ℕ

-- ---- rows that wait

-- some row goes there and sees later what is there
abbrev pub is_waited : List ModuleRow → ℕ → Bool
is_waited rows k = some_row (λ r. sees_later r && nat_eq r.to k) rows

-- the row that waits at a key
abbrev pub waiting_row : ℕ → Site → ModuleRow
waiting_row k w = record {
  key = k;
  waits = true;
  sees = sees_nothing;
  to = k;
  site = w;
  moves = 0;
  ends = false;
  makes = false;
  words = [];
  sigs = [];
  boxes = [];
  fork = no_fork;
  worth = stays;
}

-- what is looked at at a key, by the first row that goes on there
abbrev pub site_at : List ModuleRow → ℕ → Site
site_at [] k = nowhere
site_at (r ∷ rs) k = if not r.ends && nat_eq r.to k then r.site else site_at rs k

abbrev pub waiting_at : List ModuleRow → ℕ → List ModuleRow
waiting_at rows k = if is_waited rows k then waiting_row k (site_at rows k) ∷ [] else []

-- those at so many keys, from the k-th on
abbrev pub waiting_rows : List ModuleRow → (k n : ℕ) → List ModuleRow
waiting_rows rows k zero = []
waiting_rows rows k (suc n) = waiting_at rows k ++ waiting_rows rows (suc k) n

-- all rows that the module finds
abbrev pub found_rows : List ModuleRow → List ModuleRow
found_rows rows = waiting_rows rows 0 (length rows) ++ rows

-- ---- finding a row

-- the fields without a row
abbrev pub idle_sets : List Field → List Stmt
idle_sets [] = []
idle_sets (f ∷ fs) = set (found f.title) (sized f.bits f.idle) ∷ idle_sets fs

-- those of a row, where they differ
abbrev pub field_set : Bool → Field → ℕ → List Stmt → List Stmt
field_set true f n ss = ss
field_set false f n ss = set (found f.title) (sized f.bits n) ∷ ss

abbrev pub field_sets : List Field → ModuleRow → List Stmt
field_sets [] r = []
field_sets (f ∷ fs) r = field_set (nat_eq (f.at r) f.idle) f (f.at r) (field_sets fs r)

abbrev pub row_stmt_of : List Field → ModuleRow → Stmt
row_stmt_of fs r = block (field_sets fs r)

-- the rows at a key, and those that wait there
abbrev pub same_flag : Bool → Bool → Bool
same_flag true b = b
same_flag false b = not b

abbrev pub row_if : Bool → ModuleRow → List ModuleRow → List ModuleRow
row_if true r rs = r ∷ rs
row_if false r rs = rs

abbrev pub rows_at : Bool → ℕ → List ModuleRow → List ModuleRow
rows_at b k [] = []
rows_at b k (r ∷ rs) = row_if (nat_eq r.key k && same_flag r.waits b) r (rows_at b k rs)

-- an arm for each tag
abbrev pub tag_arm : (bits : ℕ) → List Field → Sees → ModuleRow → Arms → Arms
tag_arm t fs (sees_tag n) r arms = arm (sized t n ∷ []) (row_stmt_of fs r) [] arms
tag_arm t fs e r arms = arms

abbrev pub tag_arms : (bits : ℕ) → List Field → List ModuleRow → Arms
tag_arms t fs [] = otherwise skip
tag_arms t fs (r ∷ rs) = tag_arm t fs r.sees r (tag_arms t fs rs)

-- the row that sees whether the value is 0
abbrev pub sees_zero_is : Bool → Sees → Bool
sees_zero_is b (sees_zero c) = same_flag b c
sees_zero_is b e = false

abbrev pub zero_stmt : Bool → List Field → List ModuleRow → Stmt
zero_stmt b fs [] = skip
zero_stmt b fs (r ∷ rs) = if sees_zero_is b r.sees then row_stmt_of fs r else zero_stmt b fs rs

-- by what is seen
abbrev pub seen_stmt : (bits : ℕ) → List Field → Sees → ModuleRow → List ModuleRow → Stmt
seen_stmt t fs sees_nothing r rs = row_stmt_of fs r
seen_stmt t fs (sees_tag n) r rs = cases (part "looked" (count (t - 1)) (count 0)) (tag_arms t fs (r ∷ rs))
seen_stmt t fs (sees_zero b) r rs = branch (name "nonzero") (zero_stmt false fs (r ∷ rs)) (zero_stmt true fs (r ∷ rs))

abbrev pub key_stmt : (bits : ℕ) → List Field → List ModuleRow → Stmt
key_stmt t fs [] = skip
key_stmt t fs (r ∷ rs) = seen_stmt t fs r.sees r rs

-- or later
abbrev pub later_stmt : List Field → List ModuleRow → Stmt → Stmt
later_stmt fs [] s = s
later_stmt fs (w ∷ ws) s = branch (name "later") (row_stmt_of fs w) s

-- an arm for each key that has a row
abbrev pub key_arm : (bits tag : ℕ) → List Field → ℕ → (waits sees : List ModuleRow) → Arms → Arms
key_arm b t fs k ws [] arms = arms
key_arm b t fs k ws (r ∷ rs) arms = arm (sized b k ∷ []) (later_stmt fs ws (key_stmt t fs (r ∷ rs))) [] arms

abbrev pub key_arms : (bits tag : ℕ) → List Field → List ModuleRow → (k n : ℕ) → Arms
key_arms b t fs rows k zero = otherwise skip
key_arms b t fs rows k (suc n) =
    key_arm b t fs k (rows_at true k rows) (rows_at false k rows) (key_arms b t fs rows (suc k) n)

-- a module's widths and counts
pub record Widths : Type 0 where
  pub place : ℕ
  pub tag : ℕ
  pub key : ℕ
  pub depth : ℕ
  pub cells : ℕ
  pub forks : ℕ
  pub sigs : ℕ
  pub boxes : ℕ
  pub saved : ℕ
  pub words : ℕ

abbrev pub widths : List ModuleRow → Room → Widths
widths rows z = record {
  place = bits_upto z.cells;
  tag = tag_bits rows;
  key = (to_field rows).bits;
  depth = bits_upto z.forks;
  cells = z.cells;
  forks = z.forks;
  sigs = sig_count rows;
  boxes = box_count rows;
  saved = fork_count rows;
  words = word_count rows;
}

abbrev pub cell_width : Widths → ℕ
cell_width W = max 1 ((W.place + W.tag) * W.words)

abbrev pub fork_width : Widths → ℕ
fork_width W = W.place + (W.place + W.tag) * W.saved

-- whether there is a product
abbrev pub has_product : List ModuleRow → Bool
has_product rows = some_row (λ r. multiplies_in r.worth) rows

-- ---- items: ports and registers

abbrev pub joined_ports : List Item
joined_ports =
    input one "clk" ∷ input one "rst" ∷ output one "done" ∷ output (upto (count 64)) "result" ∷ output one "full" ∷
    output (upto (count 63)) "moves" ∷ []

-- what is said of them, the number that an overflow is, and the head of the registers
abbrev pub ports_said : List Item
ports_said =
    note "clk: every register changes at its rising edges. rst: high at a rising edge, where the run begins." ∷
    note "done: the run has ended with a value. result: the value, where done is up; bit 64 says overflow." ∷
    note "full: the run has ended without one, since the cells or the forks were too few." ∷
    note "moves: the moves of the run, where done is up." ∷ gap ∷
    note "A value is a number of 64 bits; bit 64 says overflow, and then the others are 0." ∷
    constant (upto (count 64)) "OVERFLOW" (2 ^ 64) ∷ gap ∷ note "---- registers" ∷ gap ∷ note "The row." ∷ []

-- a register for each field
abbrev pub field_registers : List Field → List Item
field_registers [] = []
field_registers (f ∷ fs) = reg f.wide f.title ∷ field_registers fs

-- registers of so many bits with these names, from the i-th on
abbrev pub pointer_registers : (bits : ℕ) → (ℕ → String) → (i n : ℕ) → List Item
pointer_registers w x i zero = []
pointer_registers w x i (suc n) = reg (vector_wide w) (x i) ∷ pointer_registers w x (suc i) n

abbrev pub lists_said : List Item
lists_said = gap ∷ note "The token's signatures and boxes: each is a cell's place, and below that its shape's tag." ∷ []

-- cells and forks, and what was read of them; and the rest
abbrev pub store_registers : Widths → List Item
store_registers W =
    gap ∷ note "The cells, how many are in use, and the one that was read." ∷
    memory (vector_wide (cell_width W)) "cells" (count (max 1 W.cells)) ∷ reg (vector_wide W.place) "top" ∷
    reg (vector_wide (cell_width W)) "cell_has" ∷ gap ∷
    note "The open forks: the boxes and the cells in use when each was opened, and its left answer; how many there are; what" ∷
    note "the innermost one has; and whether one of these was written at the last edge, and isn't read yet." ∷
    memory (vector_wide (fork_width W)) "forks" (count (max 1 W.forks)) ∷ memory (upto (count 64)) "answers" (count (max 1 W.forks)) ∷
    reg (vector_wide W.depth) "depth" ∷ reg (vector_wide (fork_width W)) "fork_has" ∷ reg (upto (count 64)) "kept" ∷ reg one "fresh" ∷ gap ∷
    note "Whether the run's answer was told; whether the value was written at the last edge, and whether it was 0 before; and" ∷
    note "whether the count of moves has a carry that its upper half wants." ∷
    reg one "ended" ∷ reg one "changed" ∷ reg one "nonzero" ∷ reg one "carried" ∷ []

-- ---- items: what was read, and what the row makes

-- so many pointers in a vector, behind so many bits
abbrev pub pointer_parts : (bits : ℕ) → String → (ℕ → String) → (low i n : ℕ) → List Item
pointer_parts w v x l i zero = []
pointer_parts w v x l i (suc n) =
    wire (vector_wide w) (x i) (part v (count (l + w - 1)) (count l)) ∷ pointer_parts w v x (l + w) (suc i) n

-- the vector of so many pointers, the first one lowest, above another
abbrev pub pointers_above : (ℕ → String) → (i n : ℕ) → Expr → Expr
pointers_above x i zero e = e
pointers_above x i (suc n) e = pointers_above x (suc i) n (cat (name (x i)) e)

-- the same, of one at least
abbrev pub pointers_vector : (ℕ → String) → ℕ → Expr
pointers_vector x zero = sized 1 0
pointers_vector x (suc n) = pointers_above x 1 n (name (x 0))

abbrev pub read_said : List Item
read_said = gap ∷ note "---- what was read" ∷ gap ∷ []

abbrev pub place_wires : Widths → List Item
place_wires W =
    wire (vector_wide W.place) "fork_top" (part "fork_has" (count (W.place - 1)) (count 0)) ∷ gap ∷ note "---- what the row makes" ∷ gap ∷
    wire (vector_wide W.place) "base" (pick (name "touches") (name "fork_top") (name "top")) ∷
    wire (vector_wide W.place) "next_top" (pick (name "makes") (two plus (name "base") (sized 1 1)) (name "base")) ∷ []

abbrev pub slot_wires : (place tag : ℕ) → List ModuleRow → List Slot → List Item
slot_wires p t rows [] = []
slot_wires p t rows (s ∷ ss) = wire (vector_wide (p + t)) s.title (slot_expr p t rows s) ∷ slot_wires p t rows ss

-- ---- items: the row that the token comes to

abbrev pub find_said : List Item
find_said = gap ∷ note "---- the row that the token comes to, by its key and by what is seen there" ∷ gap ∷ []

-- what is found for each field
abbrev pub found_registers : List Field → List Item
found_registers [] = []
found_registers (f ∷ fs) = reg f.wide (found f.title) ∷ found_registers fs

abbrev pub find_stmt : Widths → List ModuleRow → List Field → Stmt
find_stmt W rows fs = seq (block (idle_sets fs)) (cases (name "goes") (key_arms W.key W.tag fs rows 0 (length rows)))

abbrev pub find_items : Widths → ℕ → List ModuleRow → List Field → List Item
find_items W start rows fs =
    wire (vector_wide W.key) "goes" (pick (name "rst") (sized W.key start) (name "to")) ∷ settles (find_stmt W rows fs) ∷ []

-- ---- items: numbers, and whether the row rests

abbrev pub numbers_said : List Item
numbers_said =
    gap ∷ note "---- numbers" ∷ gap ∷ note "Both operands, what their quarters come to, and whether a number isn't there yet." ∷ []

-- one of these
abbrev pub or_all : Expr → List Expr → Expr
or_all e [] = e
or_all e (f ∷ es) = logic one_of e (or_all f es)

-- the row rests, and else it is made, but for one that waits; forks; and the count of moves with the row's, of which a carry out of the
-- lower half is added an edge later
abbrev pub rest_wires : Widths → List Item
rest_wires W =
    gap ∷ note "Whether the row rests, whether it is made now, and whether a number begins." ∷
    wire one "rests" (or_all (name "ended") (name "full" ∷ logic both (name "busy") (name "needs") ∷
    logic both (logic one_of (name "busy") (name "changed")) (name "tests") ∷ logic both (name "fresh") (name "touches") ∷ [])) ∷
    wire one "acts" (logic both (none (name "rests")) (none (name "waits"))) ∷
    wire one "starts" (logic both (name "acts") (name "computes")) ∷ gap ∷ note "---- forks" ∷ gap ∷
    wire (vector_wide W.depth) "innermost" (two minus (name "depth") (sized W.depth 1)) ∷
    wire (vector_wide W.depth) "around" (two minus (name "innermost") (sized W.depth 1)) ∷
    wire (vector_wide W.depth) "reads_fork" (pick (logic both (name "closes") (none (name "fresh"))) (name "around") (name "innermost")) ∷
    wire (vector_wide W.depth) "keeps_at" (pick (name "opens") (name "depth") (name "innermost")) ∷
    wire (vector_wide W.place) "saved_top" (pick (name "above") (name "next_top") (name "base")) ∷ gap ∷
    note "---- the count of moves, its upper half an edge behind" ∷ gap ∷
    wire (upto (count 8)) "moves_low" (two plus (cat (sized 1 0) (part "moves" (count 7) (count 0))) (name "counts")) ∷
    wire (upto (count 24)) "moves_middle"
    (two plus (cat (sized 1 0) (part "moves" (count 31) (count 8))) (cat (sized 24 0) (bit "moves_low" (num 8)))) ∷
    wire (upto (count 31)) "moves_high" (two plus (part "moves" (count 63) (count 32)) (cat (sized 31 0) (name "carried"))) ∷ []

-- ---- the block of the clock

-- whether the value is 0, an edge behind it
abbrev pub value_written : Bool → Expr
value_written false = logic one_of (name "meets") (logic both (name "acts") (name "takes"))
value_written true = logic one_of (name "meets") (logic one_of (name "last") (logic both (name "acts") (name "takes")))

abbrev pub zero_stmt_of : Bool → Stmt
zero_stmt_of b =
    block (set "nonzero" (any (name "result")) ∷ set "changed" (logic one_of (name "rst") (value_written b)) ∷ [])

-- the row that was found, and the cell that it wants
abbrev pub fetch_sets : List Field → List Stmt
fetch_sets [] = []
fetch_sets (f ∷ fs) = set f.title (name (found f.title)) ∷ fetch_sets fs

abbrev pub fetch_stmt : Widths → List Field → Stmt
fetch_stmt W fs =
    branch (logic one_of (name "rst") (none (name "rests")))
    (seq (set "cell_has" (word "cells" (part "looked" (count (W.place + W.tag - 1)) (count W.tag)))) (block (fetch_sets fs))) skip

-- each list as it comes
abbrev pub list_sets : (here next : ℕ → String) → (i n : ℕ) → List Stmt
list_sets x y i zero = []
list_sets x y i (suc n) = set (x i) (name (y i)) ∷ list_sets x y (suc i) n

-- the forks
abbrev pub open_stmt : Widths → Stmt
open_stmt W =
    seq (put (word_at "forks" (name "depth")) (pointers_above open_box_name 0 W.saved (name "saved_top")))
    (set "depth" (two plus (name "depth") (sized W.depth 1)))

abbrev pub read_fork : Stmt
read_fork = branch (logic one_of (name "acts") (name "fresh")) (set "fork_has" (word "forks" (name "reads_fork"))) skip

abbrev pub read_answer : Stmt
read_answer = branch (logic one_of (name "acts") (name "fresh")) (set "kept" (word "answers" (name "reads_fork"))) skip

-- the row is made now, and says so
abbrev pub now : String → Expr
now x = logic both (name "acts") (name x)

abbrev pub fork_stmt : Widths → Stmt
fork_stmt W =
    block (branch (now "opens") (open_stmt W) read_fork ∷
    branch (now "keeps") (put (word_at "answers" (name "keeps_at")) (name "second")) read_answer ∷
    branch (now "closes") (set "depth" (name "innermost")) skip ∷
    set "fresh" (logic both (name "acts") (logic one_of (name "opens") (name "keeps"))) ∷ [])

-- there is no row, or too little room for what it makes
abbrev pub no_room_expr : Widths → Expr
no_room_expr W =
    or_all (name "none") (logic both (name "makes") (test same (name "base") (sized W.place W.cells)) ∷
    logic both (name "opens") (test same (name "depth") (sized W.depth W.forks)) ∷ [])

-- the value comes, of a number or of an operand
abbrev pub value_stmt : Bool → Stmt
value_stmt false = branch (name "meets") (set "result" (name "late")) (branch (now "takes") (set "result" (name "first")) skip)
value_stmt true =
    branch (name "meets") (set "result" (name "late")) (branch (name "last") (set "result" (name "product"))
    (branch (now "takes") (set "result" (name "first")) skip))

-- the count of moves
abbrev pub count_stmt : Stmt
count_stmt =
    seq (set "carried" (logic both (name "acts") (bit "moves_middle" (num 24))))
    (set "moves" (cat (name "moves_high") (pick (name "acts")
    (cat (part "moves_middle" (count 23) (count 0)) (part "moves_low" (count 7) (count 0))) (part "moves" (count 31) (count 0)))))

-- what the row makes
abbrev pub act_stmt : Widths → Stmt
act_stmt W =
    block (block (list_sets sig_name next_sig_name 0 W.sigs) ∷ block (list_sets box_name next_box_name 0 W.boxes) ∷
    set "top" (name "next_top") ∷ branch (name "makes") (put (word_at "cells" (name "base")) (pointers_vector new_word_name W.words)) skip ∷
    branch (name "ends") (set "ended" (num 1)) skip ∷ branch (no_room_expr W) (set "full" (num 1)) skip ∷ [])

abbrev pub go_stmt : Widths → Bool → Stmt
go_stmt W b =
    block (fork_stmt W ∷ value_stmt b ∷ count_stmt ∷ branch (name "acts") (act_stmt W) skip ∷
    branch (logic both (name "ended") (none (name "busy"))) (set "done" (num 1)) skip ∷ [])

-- the start
abbrev pub reset_stmt : ℕ → Stmt
reset_stmt n =
    block (set "top" (num 0) ∷ set "depth" (num 0) ∷ set "fresh" (num 0) ∷ set "ended" (num 0) ∷ set "done" (num 0) ∷
    set "full" (num 0) ∷ set "result" (num 0) ∷ set "moves" (num 0) ∷ set "carried" (num 0) ∷ block (held_sets 0 n) ∷ [])

abbrev pub joined_clock_stmt : Widths → List Field → ℕ → Bool → Stmt
joined_clock_stmt W fs n b =
    block (unit_stmt b ∷ zero_stmt_of b ∷ fetch_stmt W fs ∷ branch (name "rst") (reset_stmt n) (go_stmt W b) ∷ [])

abbrev pub clock_items : Widths → List Field → ℕ → Bool → List Item
clock_items W fs n b = gap ∷ note "---- one row in each cycle in which none rests" ∷ gap ∷ clocked (joined_clock_stmt W fs n b) ∷ []

-- ---- the module

-- what is declared in front of all that settles
abbrev pub head_items : Widths → List Field → ℕ → Bool → List Item
head_items W fs n b =
    joined_ports ++ (arg_inputs 0 n ++ (ports_said ++ (field_registers fs ++ (lists_said ++
    (pointer_registers (W.place + W.tag) sig_name 0 W.sigs ++ (pointer_registers (W.place + W.tag) box_name 0 W.boxes ++
    (held_regs 0 n ++ (store_registers W ++ unit_registers b))))))))

-- what was read, the row's pointers, and the row that the token comes to
abbrev pub found_items : Widths → ℕ → List ModuleRow → List Field → List Item
found_items W start rows fs =
    read_said ++ (pointer_parts (W.place + W.tag) "cell_has" word_name 0 0 W.words ++
    (pointer_parts (W.place + W.tag) "fork_has" fork_box_name W.place 0 W.saved ++ (place_wires W ++
    (slot_wires W.place W.tag rows (all_slots rows) ++ (find_said ++ (found_registers fs ++ find_items W start rows fs))))))

-- numbers, whether the row rests, and the clock
abbrev pub last_items : Widths → List ModuleRow → List Field → ℕ → Bool → List Item
last_items W rows fs n b =
    numbers_said ++ (operand_wires_of b (input_expr rows first_input) (input_expr rows second_input) ++ (unit_wires b ++
    (rest_wires W ++ clock_items W fs n b)))

abbrev pub module_items : Widths → ℕ → List ModuleRow → List Field → ℕ → Bool → List Item
module_items W start rows fs n b = head_items W fs n b ++ (found_items W start rows fs ++ last_items W rows fs n b)

abbrev pub module_of : ModuleTable → Room → ℕ → List ModuleRow → List Item
module_of T z n rows = module_items (widths rows z) T.start rows (row_fields rows) n (has_product rows)

-- the module of a table, with so many cells and forks and so many ports
abbrev pub joined_module : ModuleTable → Room → (ports : ℕ) → List Item
joined_module T z n = module_of T z n (found_rows T.rows)
