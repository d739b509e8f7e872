-- The text of a tree, as IEEE 1364-2005 writes it (annex A). Each statement stands on a line of its own, two blanks further in for each
-- level, but that an arm which only sets whole vectors is one line. Each operand that has operands itself stands in parentheses, so that no
-- rule of precedence is asked for (5.1.2).
use Rattle.std.specs.Prelude.{ℕ, zero, suc, Bool, true, false, ◌&&◌, List, [], ◌∷◌, ◌++◌, codes, decimal}
use Prim.Native.String.{String}
use Rattle.verilog_tree.specs.Tree.{Size, count, named, more, less, Two, plus, minus, times, Way, left, right}
use Rattle.verilog_tree.specs.Tree.{Test, same, below, Logic, both, one_of, Expr, num, sized, const, name, bit, part, word}
use Rattle.verilog_tree.specs.Tree.{cat, inverse, two, shift, test, logic, none, any, every, pick, Target, whole, word_at}
use Rattle.verilog_tree.specs.Tree.{Stmt, skip, put, seq, branch, cases, Said, word_said, number_said, Arms, otherwise, arm, Width}
use Rattle.verilog_tree.specs.Tree.{one, upto, wide, Item, note, gap}
use Rattle.verilog_tree.specs.Tree.{size, constant, input, output, reg, memory, wire}
use Rattle.verilog_tree.specs.Tree.{settles, clocked}

-- a statement that only sets whole vectors
abbrev pub straight : Stmt → Bool
straight skip = true
straight (put (whole x) e) = true
straight (seq s t) = straight s && straight t
straight s = false

-- what stands around operands where they are one of another's
abbrev pub opening : Bool → List ℕ
opening true = codes "("
opening false = []

-- and behind them
abbrev pub closing : Bool → List ℕ
closing true = codes ")"
closing false = []

-- a size
abbrev pub size_text : Size → List ℕ
size_text (count n) = decimal n
size_text (named x) = codes x
size_text (more a b) = codes "(" ++ (size_text a ++ (codes "+" ++ (size_text b ++ codes ")")))
size_text (less a b) = codes "(" ++ (size_text a ++ (codes "-" ++ (size_text b ++ codes ")")))

-- the signs of operators
abbrev pub two_sign : Two → List ℕ
two_sign plus = codes " + "
two_sign minus = codes " - "
two_sign times = codes " * "

-- of shifts
abbrev pub shift_sign : Way → List ℕ
shift_sign left = codes " << "
shift_sign right = codes " >> "

-- of comparisons
abbrev pub test_sign : Test → List ℕ
test_sign same = codes " == "
test_sign below = codes " < "

-- of truth values
abbrev pub logic_sign : Logic → List ℕ
logic_sign both = codes " && "
logic_sign one_of = codes " || "

-- an expression; c says that it is an operand, and so stands in parentheses where it has operands
abbrev pub expr_text : (c : Bool) → Expr → List ℕ
expr_text c (num n) = decimal n
expr_text c (sized w n) = decimal w ++ (codes "'d" ++ decimal n)
expr_text c (const x) = codes x
expr_text c (name x) = codes x
expr_text c (bit x e) = codes x ++ (codes "[" ++ (expr_text false e ++ codes "]"))
expr_text c (part x h l) = codes x ++ (codes "[" ++ (size_text h ++ (codes ":" ++ (size_text l ++ codes "]"))))
expr_text c (word m e) = codes m ++ (codes "[" ++ (expr_text false e ++ codes "]"))
expr_text c (cat a b) = codes "{" ++ (expr_text false a ++ (codes ", " ++ (expr_text false b ++ codes "}")))
expr_text c (inverse a) = opening c ++ (codes "~" ++ (expr_text true a ++ closing c))
expr_text c (two o a b) = opening c ++ (expr_text true a ++ (two_sign o ++ (expr_text true b ++ closing c)))
expr_text c (shift o a b) = opening c ++ (expr_text true a ++ (shift_sign o ++ (expr_text true b ++ closing c)))
expr_text c (test o a b) = opening c ++ (expr_text true a ++ (test_sign o ++ (expr_text true b ++ closing c)))
expr_text c (logic o a b) = opening c ++ (expr_text true a ++ (logic_sign o ++ (expr_text true b ++ closing c)))
expr_text c (none a) = opening c ++ (codes "!" ++ (expr_text true a ++ closing c))
expr_text c (any a) = opening c ++ (codes "|" ++ (expr_text true a ++ closing c))
expr_text c (every a) = opening c ++ (codes "&" ++ (expr_text true a ++ closing c))
expr_text c (pick d a b) =
    opening c ++ (expr_text true d ++ (codes " ? " ++ (expr_text true a ++ (codes " : " ++ (expr_text true b ++ closing c)))))

-- what is assigned to
abbrev pub target_text : Target → List ℕ
target_text (whole x) = codes x
target_text (word_at m e) = codes m ++ (codes "[" ++ (expr_text false e ++ codes "]"))

-- an assignment with this sign
abbrev pub put_text : List ℕ → Target → Expr → List ℕ
put_text q t e = target_text t ++ (q ++ (expr_text false e ++ codes ";"))

-- the start of a line, so many levels in
abbrev pub indent : ℕ → List ℕ
indent zero = []
indent (suc n) = codes "  " ++ indent n

-- labels of an arm behind the first
abbrev pub more_labels : List Expr → List ℕ
more_labels [] = []
more_labels (e ∷ es) = codes ", " ++ (expr_text false e ++ more_labels es)

-- the labels of an arm
abbrev pub labels_text : List Expr → List ℕ
labels_text [] = []
labels_text (e ∷ es) = expr_text false e ++ more_labels es

-- a part of what is said
abbrev pub part_text : Said → List ℕ
part_text (word_said s) = codes s
part_text (number_said n) = decimal n

-- all parts
abbrev pub parts_text : List Said → List ℕ
parts_text [] = []
parts_text (p ∷ ps) = part_text p ++ parts_text ps

-- what is said of an arm, as a comment, and the end of its line (3.3)
abbrev pub said_text : List Said → List ℕ
said_text [] = codes "\n"
said_text (p ∷ ps) = codes "  // " ++ (parts_text (p ∷ ps) ++ codes "\n")

-- assignments on one line
abbrev pub flat_text : List ℕ → Stmt → List ℕ
flat_text q (put t e) = put_text q t e ++ codes " "
flat_text q (seq s t) = flat_text q s ++ flat_text q t
flat_text q s = []

-- the block of an arm, n levels in: on one line where it is f, and else with the lines s
abbrev pub arm_block : Bool → List ℕ → ℕ → List Said → List ℕ → List ℕ
arm_block true f n c s = codes ": begin " ++ (f ++ (codes "end" ++ said_text c))
arm_block false f n c s = codes ": begin" ++ (said_text c ++ (s ++ (indent n ++ codes "end\n")))

-- an arm with its labels, n levels in; its block has the lines l where it isn't on one line
abbrev pub arm_text : List ℕ → ℕ → List Expr → Stmt → List Said → List ℕ → List ℕ
arm_text q n es s c l = indent n ++ (labels_text es ++ arm_block (straight s) (flat_text q s) n c l)

-- the arm without labels
abbrev pub default_text : List ℕ → ℕ → Stmt → List ℕ → List ℕ
default_text q n s l = indent n ++ (codes "default" ++ arm_block (straight s) (flat_text q s) n [] l)

-- whether a statement is nothing at all
abbrev pub is_skip : Stmt → Bool
is_skip skip = true
is_skip s = false

-- the second part of a branch, n levels in, where it isn't nothing at all
abbrev pub else_text : Bool → ℕ → List ℕ → List ℕ
else_text true n s = codes "end\n"
else_text false n s = codes "end else begin\n" ++ (s ++ (indent n ++ codes "end\n"))

-- statements with this sign of assignment, so many levels in; what a branch or an arm has stands in a block, so that no `else` can go to
-- another `if` (9.4, 9.8.1)
abbrev mutual
  pub stmt_text : List ℕ → ℕ → Stmt → List ℕ
  stmt_text q n skip = []
  stmt_text q n (put t e) = indent n ++ (put_text q t e ++ codes "\n")
  stmt_text q n (seq s t) = stmt_text q n s ++ stmt_text q n t
  stmt_text q n (branch e s t) =
      indent n ++ (codes "if (" ++ (expr_text false e ++ (codes ") begin\n" ++ (stmt_text q (suc n) s ++ (indent n
      ++ else_text (is_skip t) n (stmt_text q (suc n) t))))))
  stmt_text q n (cases e arms) =
      indent n ++ (codes "case (" ++ (expr_text false e ++ (codes ")\n" ++ (arms_text q (suc n) arms ++ (indent n ++ codes "endcase\n")))))

  pub arms_text : List ℕ → ℕ → Arms → List ℕ
  arms_text q n (otherwise s) = default_text q n s (stmt_text q (suc n) s)
  arms_text q n (arm es s c arms) = arm_text q n es s c (stmt_text q (suc n) s) ++ arms_text q n arms

-- a declared width, with a blank behind it
abbrev pub width_text : Width → List ℕ
width_text one = []
width_text (upto h) = codes "[" ++ (size_text h ++ codes ":0] ")
width_text (wide k) = codes "[" ++ (size_text k ++ codes "-1:0] ")

-- a constant's bits, which are a number in a module that is well formed
abbrev pub bits_text : Width → List ℕ
bits_text one = codes "1"
bits_text (upto (count n)) = decimal (suc n)
bits_text (wide (count n)) = decimal n
bits_text w = codes "32"

-- an item of the module's body; ports have their own list
abbrev pub item_text : Item → List ℕ
item_text (note s) = codes "  // " ++ (codes s ++ codes "\n")
item_text gap = codes "\n"
item_text (size x n) = codes "  localparam " ++ (codes x ++ (codes " = " ++ (decimal n ++ codes ";\n")))
item_text (constant w x n) =
    codes "  localparam " ++ (width_text w ++ (codes x ++ (codes " = " ++ (bits_text w ++ (codes "'d" ++ (decimal n ++ codes ";\n"))))))
item_text (input w x) = []
item_text (output w x) = []
item_text (reg w x) = codes "  reg " ++ (width_text w ++ (codes x ++ codes ";\n"))
item_text (memory w x k) = codes "  reg " ++ (width_text w ++ (codes x ++ (codes " [0:" ++ (size_text k ++ codes "-1];\n"))))
item_text (wire w x e) = codes "  wire " ++ (width_text w ++ (codes x ++ (codes " = " ++ (expr_text false e ++ codes ";\n"))))
item_text (settles s) = codes "  always @* begin\n" ++ (stmt_text (codes " = ") 2 s ++ codes "  end\n")
item_text (clocked s) = codes "  always @(posedge clk) begin\n" ++ (stmt_text (codes " <= ") 2 s ++ codes "  end\n")

-- the items of the body
abbrev pub items_text : List Item → List ℕ
items_text [] = []
items_text (i ∷ is) = item_text i ++ items_text is

-- a port
abbrev pub port_text : Item → List ℕ
port_text (input w x) = codes "  input wire " ++ (width_text w ++ codes x)
port_text (output w x) = codes "  output reg " ++ (width_text w ++ codes x)
port_text i = []

-- whether an item is one
abbrev pub is_port : Item → Bool
is_port (input w x) = true
is_port (output w x) = true
is_port i = false

-- a port behind another
abbrev pub then_port : Bool → Item → List ℕ → List ℕ
then_port true i t = codes ",\n" ++ (port_text i ++ t)
then_port false i t = t

-- the ports behind the first
abbrev pub more_ports : List Item → List ℕ
more_ports [] = []
more_ports (i ∷ is) = then_port (is_port i) i (more_ports is)

-- the list of ports (12.3.4)
abbrev pub ports_text : List Item → List ℕ
ports_text [] = []
ports_text (i ∷ is) = port_text i ++ more_ports is

-- a module whose first item is a port
unfoldable pub module_text : String → List Item → List ℕ
module_text x is =
    codes "module " ++ (codes x ++ (codes " (\n" ++ (ports_text is ++ (codes "\n);\n" ++ (items_text is ++ codes "endmodule\n")))))
