-- A module that counts to 2 and begins anew, with what it does at each edge, and what would not be a module. The prover computes them.
use Rattle.std.specs.Prelude.{◌≡◌, ◌^◌, ℕ, zero, suc, true, false, List, [], ◌∷◌, ◌++◌, codes}
use Rattle.verilog_tree.specs.Tree.{count, plus, same, below, num, sized, const, name, bit, part, cat, none, test, two, pick, whole, Stmt}
use Rattle.verilog_tree.specs.Tree.{skip, put, seq, branch, one, wide, Item, size, note, input, output, reg, wire, settles, clocked}
use Rattle.verilog_tree.specs.Meaning.{Store, edge, set_vec}
use Rattle.verilog_tree.specs.WellFormed.{WellFormed}
use Rattle.verilog_tree.specs.Print.{item_text}

-- the ports, and how far it counts
abbrev pub counter_ports : List Item
counter_ports = input one "clk" ∷ input one "rst" ∷ output (wide (count 2)) "count" ∷ size "LAST" 2 ∷ []

-- one more, or 0 behind the last
abbrev pub next_count : Item
next_count = wire (wide (count 2)) "next" (pick (test same (name "count") (const "LAST")) (num 0) (two plus (name "count") (num 1)))

-- the block of the clock
abbrev pub counting : Stmt
counting = branch (name "rst") (put (whole "count") (num 0)) (put (whole "count") (name "next"))

-- the module
abbrev pub counter : List Item
counter = counter_ports ++ (next_count ∷ clocked counting ∷ [])

-- nothing is written yet, so that each name holds this number
abbrev pub unwritten : ℕ → Store
unwritten n = record { vec = λ x. n; mem = λ m i. n; stray = λ x i. n }

-- what `count` holds at first and after each of so many edges
abbrev pub counted : ℕ → Store → List ℕ
counted zero S = S.vec "count" ∷ []
counted (suc k) S = S.vec "count" ∷ counted k (edge counter (set_vec "rst" 0 S))

-- after an edge with `rst` up it counts from 0
abbrev pub ExampleCounts : Type 0
ExampleCounts = counted 5 (edge counter (set_vec "rst" 1 (unwritten 9))) ≡ 0 ∷ 1 ∷ 2 ∷ 0 ∷ 1 ∷ 2 ∷ []

-- two registers of two bits and a flag
abbrev pub sums : List Item
sums =
    input one "clk" ∷ reg (wide (count 2)) "a" ∷ reg (wide (count 2)) "b" ∷ reg one "four" ∷
    clocked (seq (put (whole "b") (two plus (name "a") (num 1)))
    (put (whole "four") (test same (two plus (name "a") (sized 2 1)) (num 4)))) ∷ []

-- 3 + 1 is 0 where it is assigned to two bits, and 4 where it is compared with a number of 32
abbrev pub ExampleWidths : Type 0
ExampleWidths = ((edge sums (unwritten 3)).vec "b" ≡ 0) × ((edge sums (unwritten 3)).vec "four" ≡ 1)

-- it is a module
abbrev pub ExampleIsModule : Type 0
ExampleIsModule = WellFormed counter ≡ true

-- these aren't: a wire below the block that reads it; a name declared twice; two blocks that drive one register; a register that is set in
-- one arm alone; a constant that is set; a wire that reads itself; a port that isn't declared; a bit of a scalar; a concatenation with
-- a part whose width a number without one tells; a wire that reads a register above the block that settles it; a block that reads nothing;
-- a wire of no bits; a part with its lower bound first; a comparison of numbers without a width; a number too large for one; a bit, and
-- a part, past the end; and a comment that tools obey
abbrev pub wrong_modules : List (List Item)
wrong_modules =
    (counter_ports ++ (clocked counting ∷ next_count ∷ [])) ∷
    (counter_ports ++ (next_count ∷ next_count ∷ clocked counting ∷ [])) ∷
    (counter_ports ++ (next_count ∷ clocked counting ∷ clocked counting ∷ [])) ∷
    (counter_ports ++ (reg one "odd" ∷ settles (branch (name "rst") (put (whole "odd") (num 1)) skip) ∷ [])) ∷
    (counter_ports ++ (settles (put (whole "LAST") (num 1)) ∷ [])) ∷
    (counter_ports ++ (wire one "a" (none (name "a")) ∷ [])) ∷
    (next_count ∷ clocked counting ∷ []) ∷
    (counter_ports ++ (wire one "a" (bit "rst" (num 0)) ∷ [])) ∷
    (counter_ports ++ (wire (wide (count 9)) "a" (cat (name "rst") (two plus (name "count") (num 1))) ∷ [])) ∷
    (counter_ports ++ (reg one "odd" ∷ wire one "a" (none (name "odd")) ∷ settles (put (whole "odd") (name "a")) ∷ [])) ∷
    (counter_ports ++ (reg one "odd" ∷ settles (put (whole "odd") (num 1)) ∷ [])) ∷
    (counter_ports ++ (wire (wide (count 0)) "a" (name "rst") ∷ [])) ∷
    (counter_ports ++ (wire (wide (count 2)) "a" (part "count" (count 0) (count 1)) ∷ [])) ∷
    (counter_ports ++ (wire one "a" (test below (const "LAST") (num 1)) ∷ [])) ∷
    (counter_ports ++ (wire one "a" (test same (name "count") (num (2 ^ 31))) ∷ [])) ∷
    (counter_ports ++ (wire one "a" (bit "count" (const "LAST")) ∷ [])) ∷
    (counter_ports ++ (wire (wide (count 2)) "a" (part "count" (count 2) (count 1)) ∷ [])) ∷
    (counter_ports ++ (note " synopsys translate_off" ∷ [])) ∷ []

-- each of them is refused
abbrev pub all_refused : List (List Item) → Type 0
all_refused [] = Unit {0}
all_refused (is ∷ more) = (WellFormed is ≡ false) × all_refused more

-- and the wrong modules are
abbrev pub ExampleRefused : Type 0
ExampleRefused = all_refused wrong_modules

-- the text of a block, where no number stands in it
abbrev pub ExampleText : Type 0
ExampleText = item_text (settles (branch (name "rst") (put (whole "count") (name "next")) skip))
    ≡ codes "  always @* begin\n    if (rst) begin\n      count = next;\n    end\n  end\n"
