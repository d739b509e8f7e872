-- A product in the unit of numbers: two cycles for each bit of the right operand. In the first one the quarters of the sum so far and of
-- the left operand meet, as those of any sum do; in the second one the sum takes what they are, where the bit is 1, and both operands are
-- shifted.
-- `begun` says that a product goes on, and `adds` which of both cycles it is.
use Rattle.std.specs.Prelude.{List, [], ◌∷◌}
use Rattle.verilog_tree.specs.Tree.{count, num, name, bit, part, cat, shift, left, right, logic, one_of, none, Stmt, skip, seq, branch, one}
use Rattle.verilog_tree.specs.Tree.{upto, Item, reg, wire}
use Rattle.circuit_module.specs.Fixed.{set, block}

-- the bits that are left, the left operand, the sum so far, and what was lost of them
abbrev pub product_registers : List Item
product_registers =
    reg (upto (count 63)) "rest" ∷ reg (upto (count 63)) "factor" ∷ reg (upto (count 63)) "total" ∷ reg one "lost" ∷ reg one "beyond" ∷
    reg one "begun" ∷ reg one "adds" ∷ []

-- the number that the quarters are
abbrev pub met_wires : List Item
met_wires =
    wire (upto (count 63)) "met" (cat (part "right3" (count 15) (count 0)) (cat (part "right2" (count 15) (count 0))
    (cat (part "right1" (count 15) (count 0)) (part "part0" (count 15) (count 0))))) ∷ []

-- the sum takes what the quarters are
abbrev pub sum_taken : Stmt
sum_taken =
    block (set "total" (name "met") ∷ set "beyond" (logic one_of (name "beyond") (logic one_of (name "lost") (bit "right3" (num 16)))) ∷ [])

-- to the next bit
abbrev pub bits_shift : Stmt
bits_shift =
    block (set "rest" (shift right (name "rest") (num 1)) ∷ set "factor" (shift left (name "factor") (num 1)) ∷
    set "lost" (logic one_of (name "lost") (bit "factor" (num 63))) ∷ [])

-- a cycle of a product that goes on
abbrev pub product_goes : Stmt
product_goes =
    seq (set "adds" (none (name "adds"))) (branch (name "adds") (seq (branch (bit "rest" (num 0)) sum_taken skip) bits_shift) skip)
