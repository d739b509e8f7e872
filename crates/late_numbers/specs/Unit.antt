-- A sum or a difference in two cycles: in the first one the quarters of both operands meet, all but the lowest without and with a carry
-- from below; in the second one the quarters are put together.
-- The operands are `first` and `second`, of 65 bits each, as values are, and `less` says that a difference is wanted. For a difference the
-- second operand is taken with each bit inverted and one more, so that a carry out of the highest quarter says that nothing was borrowed.
use Rattle.std.specs.Prelude.{ℕ, List, [], ◌∷◌}
use Prim.Native.String.{String}
use Rattle.verilog_tree.specs.Tree.{count, Expr, sized, name, part, cat, inverse, two, plus, pick, Stmt, upto, Item, reg, wire}
use Rattle.circuit_module.specs.Fixed.{set, block}

-- what the registers of the quarters hold: the lowest one, and each other without and with a carry from below
abbrev pub quarter_registers : List Item
quarter_registers =
    reg (upto (count 16)) "part0" ∷ reg (upto (count 16)) "part1" ∷ reg (upto (count 16)) "next1" ∷ reg (upto (count 16)) "part2" ∷
    reg (upto (count 16)) "next2" ∷ reg (upto (count 16)) "part3" ∷ reg (upto (count 16)) "next3" ∷ []

-- a quarter of both operands with a carry from below: a lowest bit makes it
abbrev pub met : (highest lowest : ℕ) → Expr → Expr
met h l carry =
    two plus (cat (sized 1 0) (cat (part "first" (count h) (count l)) (sized 1 1)))
    (cat (sized 1 0) (cat (part "addend" (count h) (count l)) carry))

-- the second operand as it is added, and the quarters
abbrev pub meet_wires : List Item
meet_wires =
    wire (upto (count 63)) "addend"
    (pick (name "less") (inverse (part "second" (count 63) (count 0))) (part "second" (count 63) (count 0))) ∷
    wire (upto (count 17)) "meet0" (met 15 0 (name "less")) ∷ wire (upto (count 17)) "meet1" (met 31 16 (sized 1 0)) ∷
    wire (upto (count 17)) "more1" (met 31 16 (sized 1 1)) ∷ wire (upto (count 17)) "meet2" (met 47 32 (sized 1 0)) ∷
    wire (upto (count 17)) "more2" (met 47 32 (sized 1 1)) ∷ wire (upto (count 17)) "meet3" (met 63 48 (sized 1 0)) ∷
    wire (upto (count 17)) "more3" (met 63 48 (sized 1 1)) ∷ []

-- a register takes its quarter
abbrev pub takes : String → String → Stmt
takes x y = set x (part y (count 17) (count 1))

abbrev pub quarters_meet : Stmt
quarters_meet =
    block (takes "part0" "meet0" ∷ takes "part1" "meet1" ∷ takes "next1" "more1" ∷ takes "part2" "meet2" ∷ takes "next2" "more2" ∷
    takes "part3" "meet3" ∷ takes "next3" "more3" ∷ [])
