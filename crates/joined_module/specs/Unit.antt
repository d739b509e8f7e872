-- The unit of numbers, which goes on beside the walk: a sum, a difference, one more and one less in two cycles, by quarters; a product in
-- two cycles for each bit, where there is one.
-- The operands `first` and `second` are the row's; they don't stand still, and what their quarters come to reads none of them. While a
-- product goes on, they are its sum so far and its left operand.
use Rattle.std.specs.Prelude.{Bool, true, false, List, [], ◌∷◌, ◌++◌}
use Rattle.verilog_tree.specs.Tree.{count, both, one_of, Expr, num, sized, const, name, bit, cat, logic, none, any, pick, Stmt, seq}
use Rattle.verilog_tree.specs.Tree.{branch}
use Rattle.verilog_tree.specs.Tree.{Item, note, gap, reg, wire, one, upto}
use Rattle.circuit_module.specs.Fixed.{set, block, high, low}
use Rattle.late_numbers.specs.Unit.{quarter_registers, meet_wires, quarters_meet}
use Rattle.late_numbers.specs.ProductUnit.{product_registers, met_wires, product_goes}

-- what is said of a product, and its registers
abbrev pub product_parts : Bool → List Item
product_parts false = []
product_parts true =
    gap ∷ note "A product: the bits that are left of its right operand, the left operand and the sum so far, whether a bit of these was" ∷
    note "lost, whether it goes on, and whether its sum is taken next." ∷ product_registers

abbrev pub unit_said : List Item
unit_said =
    gap ∷ note "A number: its quarters, the upper ones without and with a carry from below; whether they met at the last edge; whether" ∷
    note "it is a difference; and whether an operand was an overflow." ∷ []

abbrev pub unit_flags : List Item
unit_flags = reg one "meets" ∷ reg one "was_less" ∷ reg one "spoilt" ∷ []

abbrev pub unit_registers : Bool → List Item
unit_registers b = unit_said ++ (quarter_registers ++ (unit_flags ++ product_parts b))

-- both operands and whether a difference is wanted, of what the row has
abbrev pub operand_wires_of : Bool → (first second : Expr) → List Item
operand_wires_of false x y = wire (upto (count 64)) "first" x ∷ wire (upto (count 64)) "second" y ∷ wire one "less" (name "subtracts") ∷ []
operand_wires_of true x y =
    wire (upto (count 64)) "first" (pick (name "begun") (cat (sized 1 0) (name "total")) x) ∷
    wire (upto (count 64)) "second" (pick (name "begun") (cat (sized 1 0) (name "factor")) y) ∷
    wire one "less" (logic both (name "subtracts") (none (name "begun"))) ∷ []

-- the quarters that are right, an edge later; an overflow, or a difference below 0
abbrev pub right_wires : List Item
right_wires =
    wire (upto (count 16)) "right1" (pick (bit "part0" (num 16)) (name "next1") (name "part1")) ∷
    wire (upto (count 16)) "right2" (pick (bit "right1" (num 16)) (name "next2") (name "part2")) ∷
    wire (upto (count 16)) "right3" (pick (bit "right2" (num 16)) (name "next3") (name "part3")) ∷
    wire one "past" (logic one_of (name "spoilt") (logic both (none (name "was_less")) (bit "right3" (num 16)))) ∷
    wire one "under" (logic both (name "was_less") (none (bit "right3" (num 16)))) ∷ []

-- what they come to
abbrev pub late_wires : List Item
late_wires =
    wire (upto (count 64)) "late" (pick (name "past") (const "OVERFLOW") (pick (name "under") (sized 65 0)
    (cat (sized 1 0) (name "met")))) ∷ []

-- a number is made still; a product's last edge, and what it is then
abbrev pub busy_wires : Bool → List Item
busy_wires false = wire one "busy" (name "meets") ∷ []
busy_wires true =
    wire one "busy" (logic one_of (name "meets") (name "begun")) ∷
    wire one "last" (logic both (name "begun") (logic both (none (name "adds")) (none (any (name "rest"))))) ∷
    wire (upto (count 64)) "product" (pick (logic one_of (name "spoilt") (name "beyond")) (const "OVERFLOW")
    (cat (sized 1 0) (name "total"))) ∷ []

-- from the operands to what they come to
abbrev pub unit_wires : Bool → List Item
unit_wires b = meet_wires ++ (right_wires ++ (met_wires ++ (late_wires ++ busy_wires b)))

-- a product takes its operands
abbrev pub product_takes : Stmt
product_takes =
    block (set "rest" (low "second") ∷ set "factor" (low "first") ∷ set "total" (num 0) ∷ set "lost" (num 0) ∷ set "beyond" (num 0) ∷
    set "adds" (num 0) ∷ [])

abbrev pub spoilt_set : Stmt
spoilt_set = set "spoilt" (logic one_of (high "first") (high "second"))

-- the unit in each cycle; `starts` says that a number of the row begins
abbrev pub unit_stmt : Bool → Stmt
unit_stmt false =
    block (quarters_meet ∷ set "was_less" (name "less") ∷ spoilt_set ∷ set "meets" (logic both (name "starts") (none (name "rst"))) ∷ [])
unit_stmt true =
    block (quarters_meet ∷ set "was_less" (name "less") ∷ branch (name "begun") product_goes (seq spoilt_set product_takes) ∷
    set "begun" (logic both (none (name "rst")) (logic one_of (logic both (name "starts") (name "multiplies"))
    (logic both (name "begun") (none (name "last"))))) ∷
    set "meets" (logic both (name "starts") (logic both (none (name "multiplies")) (none (name "rst")))) ∷ [])
