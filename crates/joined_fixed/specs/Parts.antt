-- Parts of a module's tree, each as `joined_module` has it.
use Rattle.std.specs.Prelude.{Bool, true, false, List, [], ◌∷◌}
use Prim.Native.String.{String}
use Rattle.verilog_tree.specs.Tree.{count, plus, both, one_of, Expr, num, sized, name, bit, part, cat, two, logic, none, pick}
use Rattle.verilog_tree.specs.Tree.{Item, note, gap, reg, wire, one, upto, Stmt, skip, put, seq, branch, word_at}
use Rattle.circuit_module.specs.Fixed.{set, block}
use Rattle.joined_module.specs.Module.{or_all, read_answer, now}

-- the head of the last part
abbrev pub clock_said : List Item
clock_said = gap ∷ note "---- one row in each cycle in which none rests" ∷ gap ∷ []

-- the cells, how many are in use, and the one that was read
abbrev pub cells_said : List Item
cells_said = gap ∷ note "The cells, how many are in use, and the one that was read." ∷ []

-- the open forks
abbrev pub forks_said : List Item
forks_said =
    gap ∷ note "The open forks: the boxes and the cells in use when each was opened, and its left answer; how many there are; what" ∷
    note "the innermost one has; and whether one of these was written at the last edge, and isn't read yet." ∷ []

-- and what else there is of registers
abbrev pub store_rest : List Item
store_rest =
    reg (upto (count 64)) "kept" ∷ reg one "fresh" ∷ gap ∷
    note "Whether the run's answer was told; whether the value was written at the last edge, and whether it was 0 before; and" ∷
    note "whether the count of moves has a carry that its upper half wants." ∷ reg one "ended" ∷ reg one "changed" ∷ reg one "nonzero" ∷
    reg one "carried" ∷ []

-- the place of a new cell
abbrev pub place_said : List Item
place_said = gap ∷ note "---- what the row makes" ∷ gap ∷ []

abbrev pub base_expr : Expr
base_expr = pick (name "touches") (name "fork_top") (name "top")

abbrev pub next_top_expr : Expr
next_top_expr = pick (name "makes") (two plus (name "base") (sized 1 1)) (name "base")

-- which fork is read, where an answer is kept, and what is saved when one is opened
abbrev pub reads_fork_expr : Expr
reads_fork_expr = pick (logic both (name "closes") (none (name "fresh"))) (name "around") (name "innermost")

abbrev pub keeps_at_expr : Expr
keeps_at_expr = pick (name "opens") (name "depth") (name "innermost")

abbrev pub saved_top_expr : Expr
saved_top_expr = pick (name "above") (name "next_top") (name "base")

-- whether a difference is wanted
abbrev pub less_wires : Bool → List Item
less_wires false = wire one "less" (name "subtracts") ∷ []
less_wires true = wire one "less" (logic both (name "subtracts") (none (name "begun"))) ∷ []

-- whether the row rests, whether it is made, and whether a number begins; and the head of forks
abbrev pub rest_flags : List Item
rest_flags =
    gap ∷ note "Whether the row rests, whether it is made now, and whether a number begins." ∷
    wire one "rests" (or_all (name "ended") (name "full" ∷ logic both (name "busy") (name "needs") ∷
    logic both (logic one_of (name "busy") (name "changed")) (name "tests") ∷ logic both (name "fresh") (name "touches") ∷ [])) ∷
    wire one "acts" (logic both (none (name "rests")) (none (name "waits"))) ∷
    wire one "starts" (logic both (name "acts") (name "computes")) ∷ gap ∷ note "---- forks" ∷ gap ∷ []

-- the count of moves
abbrev pub count_wires : List Item
count_wires =
    gap ∷ note "---- the count of moves, its upper half an edge behind" ∷ gap ∷
    wire (upto (count 8)) "moves_low" (two plus (cat (sized 1 0) (part "moves" (count 7) (count 0))) (name "counts")) ∷
    wire (upto (count 24)) "moves_middle"
    (two plus (cat (sized 1 0) (part "moves" (count 31) (count 8))) (cat (sized 24 0) (bit "moves_low" (num 8)))) ∷
    wire (upto (count 31)) "moves_high" (two plus (part "moves" (count 63) (count 32)) (cat (sized 31 0) (name "carried"))) ∷ []

-- an answer is kept or read, a fork is closed, and what was written is fresh
abbrev pub fork_rest : Stmt
fork_rest =
    block (branch (now "keeps") (put (word_at "answers" (name "keeps_at")) (name "second")) read_answer ∷
    branch (now "closes") (set "depth" (name "innermost")) skip ∷
    set "fresh" (logic both (name "acts") (logic one_of (name "opens") (name "keeps"))) ∷ [])

-- the cells in use
abbrev pub top_stmt : Stmt
top_stmt = set "top" (name "next_top")

-- the run's answer was told
abbrev pub end_stmt : Stmt
end_stmt = branch (name "ends") (set "ended" (num 1)) skip

-- there is no row, or too little room
abbrev pub full_stmt : Stmt
full_stmt = set "full" (num 1)

-- the run has ended
abbrev pub done_stmt : Stmt
done_stmt = branch (logic both (name "ended") (none (name "busy"))) (set "done" (num 1)) skip

-- nothing at all
abbrev pub nothing : Stmt
nothing = skip

-- the next row is fetched
abbrev pub fetches : Expr
fetches = logic one_of (name "rst") (none (name "rests"))

-- a register is set to 0 in front of the others
abbrev pub zeroed : String → Stmt → Stmt
zeroed x s = seq (set x (num 0)) s
