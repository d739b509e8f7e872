-- The text of a module at work, as a program that shows waves reads it: a value change dump (IEEE 1364-2005, clause 18). First come the
-- names with a code for each, then what each holds before the first edge, and then at each time what has changed. The clock goes up 5 ns
-- after each multiple of 10 ns, and down at the next. The format has values besides 0 and 1; no bit here has one of these.
use Rattle.std.specs.Prelude.{ℕ, zero, suc, ◌+◌, ◌-◌, ◌*◌, ◌/◌, ◌%◌, ◌^◌, nat_eq, List, [], ◌∷◌, ◌++◌, replicate, codes, decimal}
use Prim.Native.String.{String}
use Rattle.verilog_tree.specs.Tree.{Item}
use Rattle.verilog_tree.specs.Meaning.{Store, set_vec, chosen}
use Rattle.verilog_waves.specs.Course.{before, behind}
use Rattle.verilog_waves.specs.Shown.{Shown, shown}

-- the code of the i-th name (18.2.1): a printable character from `!` on, and one `~` in front of it for each time that all 94 are used up
abbrev pub code : ℕ → List ℕ
code i = replicate (i / 94) 126 ++ (33 + i % 94) ∷ []

-- the places of a vector's bits, where it has several (18.2.3)
abbrev pub range_text : ℕ → List ℕ
range_text w = chosen (nat_eq w 1) [] (codes " [" ++ (decimal (w - 1) ++ codes ":0]"))

-- the line of a name: what it is, how many bits it has, its code
abbrev pub name_line : Shown → List ℕ
name_line v =
    codes "$var " ++ (codes v.kind ++ (codes " " ++ (decimal v.bits ++ (codes " " ++ (code v.place ++ (codes " "
    ++ (codes v.name ++ (range_text v.bits ++ codes " $end\n"))))))))

-- of all names
abbrev pub name_lines : List Shown → List ℕ
name_lines [] = []
name_lines (v ∷ vs) = name_line v ++ name_lines vs

-- the head of the text, for a module of this name
abbrev pub head_text : String → List Shown → List ℕ
head_text x vs =
    codes "$timescale 1 ns $end\n$scope module " ++ (codes x ++ (codes " $end\n" ++ (name_lines vs
    ++ codes "$upscope $end\n$enddefinitions $end\n")))

-- the lowest w bits of a number, the highest first
abbrev pub bits_text : ℕ → ℕ → List ℕ
bits_text zero n = []
bits_text (suc w) n = (48 + n / 2 ^ w % 2) ∷ bits_text w n

-- the same without the zeros in front, but that one digit stays
abbrev pub digits_text : ℕ → ℕ → List ℕ
digits_text zero n = codes "0"
digits_text (suc w) n = chosen (nat_eq (n / 2 ^ w % 2) 0) (digits_text w n) (bits_text (suc w) n)

-- the value of one bit, or of several (18.2.2)
abbrev pub value_text : ℕ → ℕ → List ℕ
value_text w n = chosen (nat_eq w 1) (digits_text w n) (codes "b" ++ (digits_text w n ++ codes " "))

-- the line of a value: that of a name in a store
abbrev pub value_line : Shown → Store → List ℕ
value_line v S = value_text v.bits (S.vec v.name) ++ (code v.place ++ codes "\n")

-- of all names
abbrev pub value_lines : List Shown → Store → List ℕ
value_lines [] S = []
value_lines (v ∷ vs) S = value_line v S ++ value_lines vs S

-- of a name whose number isn't what it was
abbrev pub change_line : Shown → (old new : Store) → List ℕ
change_line v R S = chosen (nat_eq (R.vec v.name) (S.vec v.name)) [] (value_line v S)

-- of all such names
abbrev pub change_lines : List Shown → (old new : Store) → List ℕ
change_lines [] R S = []
change_lines (v ∷ vs) R S = change_line v R S ++ change_lines vs R S

-- a time with what changes at it (18.2.1)
abbrev pub change_text : List Shown → (time : ℕ) → (old new : Store) → List ℕ
change_text vs t R S = codes "#" ++ (decimal t ++ (codes "\n" ++ change_lines vs R S))

-- the clock is down or up
abbrev pub clock_at : ℕ → Store → Store
clock_at n S = set_vec "clk" n S

-- one edge, with what the module holds before it, behind it, and before the next: the clock goes up, what the edge writes is written, and
-- all settles behind it; then the clock goes down, and inputs change
abbrev pub edge_text : List Shown → (k : ℕ) → (old up new : Store) → List ℕ
edge_text vs k R B S =
    change_text vs (10 * k + 5) (clock_at 0 R) (clock_at 1 B) ++ change_text vs (10 * k + 10) (clock_at 1 B) (clock_at 0 S)

-- the k-th edge of a module
abbrev pub shown_edge : List Shown → List Item → ℕ → List ℕ
shown_edge vs is k = edge_text vs k (before is k) (behind is k) (before is (suc k))

-- so many edges
abbrev pub edges_text : List Shown → List Item → ℕ → List ℕ
edges_text vs is zero = []
edges_text vs is (suc k) = edges_text vs is k ++ shown_edge vs is k

-- all values at time 0 (18.2.3)
abbrev pub start_text : List Shown → Store → List ℕ
start_text vs S = codes "#0\n$dumpvars\n" ++ (value_lines vs (clock_at 0 S) ++ codes "$end\n")

-- what n edges of a module of this name show, of which the first is the reset's
abbrev pub dump : String → List Item → ℕ → List ℕ
dump x is n = head_text x (shown is) ++ (start_text (shown is) (before is 0) ++ edges_text (shown is) is n)
