-- Parts of a module's tree, each as `joined_module` has it.
use Rattle.std.specs.Prelude.{ℕ, ◌+◌, ◌-◌, max, Bool, true, false, List, [], ◌∷◌, ◌++◌}
use Prim.Native.String.{String}
use Rattle.verilog_tree.specs.Tree.{count, plus, minus, same, both, Expr, sized, name, part, word, cat, two, test, logic}
use Rattle.verilog_tree.specs.Tree.{pick, word_at, Stmt, skip, put, seq, branch, Item, reg, memory, wire, one, upto}
use Rattle.circuit_module.specs.Fixed.{set, block}
use Rattle.joined_module.specs.Names.{sig_name, box_name, word_name, fork_box_name, next_sig_name, next_box_name, open_box_name}
use Rattle.joined_module.specs.Names.{new_word_name}
use Rattle.joined_module.specs.Fields.{vector_wide, Field}
use Rattle.joined_module.specs.Unit.{unit_registers}
use Rattle.joined_module.specs.Ports.{arg_inputs, held_regs}
use Rattle.joined_module.specs.Module.{Widths, cell_width, fork_width, joined_ports, ports_said, field_registers, lists_said}
use Rattle.joined_module.specs.Module.{pointer_registers, store_registers, read_said, pointer_parts, pointers_above, pointers_vector}
use Rattle.joined_module.specs.Module.{place_wires, list_sets, no_room_expr}
use Rattle.joined_fixed.specs.Parts.{zeroed, end_stmt, full_stmt, base_expr, next_top_expr, reads_fork_expr, keeps_at_expr}
use Rattle.joined_fixed.specs.Parts.{saved_top_expr}

-- the cell of a pointer, with another tag
abbrev pub tagged_part : (place tag : ℕ) → Expr → String → Expr
tagged_part p t e x = cat (part x (count (p + t - 1)) (count t)) e

-- an expression, or others where a number isn't this
abbrev pub chosen : Expr → (bits n : ℕ) → Expr → Expr → Expr
chosen e b n x others = pick (test same e (sized b n)) x others

-- the registers of cells
abbrev pub cell_registers : Widths → List Item
cell_registers W =
    memory (vector_wide (cell_width W)) "cells" (count (max 1 W.cells)) ∷ reg (vector_wide W.place) "top" ∷
    reg (vector_wide (cell_width W)) "cell_has" ∷ []

-- of forks
abbrev pub fork_registers : Widths → List Item
fork_registers W =
    memory (vector_wide (fork_width W)) "forks" (count (max 1 W.forks)) ∷ memory (upto (count 64)) "answers" (count (max 1 W.forks)) ∷
    reg (vector_wide W.depth) "depth" ∷ reg (vector_wide (fork_width W)) "fork_has" ∷ []

-- the cells in use when the innermost fork was opened
abbrev pub fork_top_wire : Widths → List Item
fork_top_wire W = wire (vector_wide W.place) "fork_top" (part "fork_has" (count (W.place - 1)) (count 0)) ∷ []

-- the place of a new cell
abbrev pub base_wires : Widths → List Item
base_wires W = wire (vector_wide W.place) "base" base_expr ∷ wire (vector_wide W.place) "next_top" next_top_expr ∷ []

-- forks
abbrev pub less_one : (bits : ℕ) → String → Expr
less_one b x = two minus (name x) (sized b 1)

abbrev pub fork_wires : Widths → List Item
fork_wires W =
    wire (vector_wide W.depth) "innermost" (less_one W.depth "depth") ∷ wire (vector_wide W.depth) "around" (less_one W.depth "innermost") ∷
    wire (vector_wide W.depth) "reads_fork" reads_fork_expr ∷ wire (vector_wide W.depth) "keeps_at" keeps_at_expr ∷
    wire (vector_wide W.place) "saved_top" saved_top_expr ∷ []

-- the row that the token comes to
abbrev pub goes_expr : (bits start : ℕ) → Expr
goes_expr b start = pick (name "rst") (sized b start) (name "to")

-- operands
abbrev pub begun_expr : Bool → String → Expr → Expr
begun_expr false x e = e
begun_expr true x e = pick (name "begun") (cat (sized 1 0) (name x)) e

-- too little room for what the row makes
abbrev pub at_limit : String → String → (bits n : ℕ) → Expr
at_limit x y b n = logic both (name x) (test same (name y) (sized b n))

-- ---- the block of the clock

-- the place of the pointer that is looked at, and the cell there
abbrev pub looked_place : Widths → Expr
looked_place W = part "looked" (count (W.place + W.tag - 1)) (count W.tag)

abbrev pub cell_wanted : Widths → Stmt
cell_wanted W = set "cell_has" (word "cells" (looked_place W))

-- a fork is written, and there is one more
abbrev pub fork_written : Widths → Stmt
fork_written W = put (word_at "forks" (name "depth")) (pointers_above open_box_name 0 W.saved (name "saved_top"))

abbrev pub one_deeper : Widths → Stmt
one_deeper W = set "depth" (two plus (name "depth") (sized W.depth 1))

-- both lists come
abbrev pub lists_stmt : Widths → Stmt → Stmt
lists_stmt W s = seq (block (list_sets sig_name next_sig_name 0 W.sigs)) (seq (block (list_sets box_name next_box_name 0 W.boxes)) s)

-- a cell is made
abbrev pub makes_stmt : Widths → Stmt
makes_stmt W = branch (name "makes") (put (word_at "cells" (name "base")) (pointers_vector new_word_name W.words)) skip

-- the run has ended, or is full
abbrev pub ends_stmt : Widths → Stmt
ends_stmt W = seq end_stmt (branch (no_room_expr W) full_stmt skip)

-- the last of what is set to 0
abbrev pub last_zeroed : Stmt → Stmt
last_zeroed s = zeroed "full" (zeroed "result" (zeroed "moves" (zeroed "carried" s)))

-- ---- parts of the module

-- ports and the row's registers
abbrev pub row_items : List Field → ℕ → List Item
row_items fs n = joined_ports ++ (arg_inputs 0 n ++ (ports_said ++ (field_registers fs ++ lists_said)))

-- lists, cells and forks, and the unit
abbrev pub store_items : Widths → ℕ → Bool → List Item
store_items W n b =
    pointer_registers (W.place + W.tag) sig_name 0 W.sigs ++ (pointer_registers (W.place + W.tag) box_name 0 W.boxes ++
    (held_regs 0 n ++ (store_registers W ++ unit_registers b)))

-- what was read
abbrev pub read_items : Widths → List Item
read_items W =
    read_said ++ (pointer_parts (W.place + W.tag) "cell_has" word_name 0 0 W.words ++
    (pointer_parts (W.place + W.tag) "fork_has" fork_box_name W.place 0 W.saved ++ place_wires W))
