-- What the unit of numbers works at, told by its registers: nothing; or a number that it tells after so many edges.
use Rattle.std.specs.Prelude.{◌≡◌, ◌⊎◌, ℕ, zero, suc, ◌+◌, ◌-◌, ◌*◌, ◌/◌, ◌%◌, ◌^◌, Bool, true, false, ◌||◌, List}
use Rattle.std.specs.Prelude.{[], ◌∷◌, ◌++◌, if◌then◌else◌}
use Prim.Native.String.{String}
use Rattle.pcf_values.specs.declared.val.Val.{Val}
use Rattle.pcf_values.specs.declared.val.Val.TheVariants.{Number, Overflow}
use Rattle.pcf_values.specs.declared.operator.Operator.{Operator}
use Rattle.pcf_values.specs.declared.operator.Operator.TheVariants.{Plus, Minus, Times}
use Rattle.pcf_values.specs.Values.{val_op}
use Rattle.verilog_tree.specs.Tree.{count, Expr, one, upto, Item, size, constant, input, output, reg, memory, wire}
use Rattle.verilog_tree.specs.Meaning.{Store, Scope, flag, fit, nonzero, chosen, amount, width_of, fire}
use Rattle.verilog_tree.specs.WellFormed.{member}
use Rattle.verilog_tree.specs.Laws.{Rests}
use Rattle.circuit_module.specs.Sizes.{bits_for}
use Rattle.circuit_module.specs.Stands.{value_number, Small}
use Rattle.late_numbers.specs.Product.{Product, begun, bits_done, IsProduct}
use Rattle.late_numbers.specs.Unit.{quarter_registers, meet_wires}
use Rattle.late_numbers.specs.ProductUnit.{product_registers, met_wires}
use Rattle.joined_module.specs.Unit.{unit_stmt, unit_flags, unit_wires, right_wires, late_wires, busy_wires, operand_wires_of}

-- ---- the unit in a module

-- what these items declare is what the scope has
abbrev pub Declared : Scope → List Item → Type 0
Declared P [] = Unit {0}
Declared P (size x n ∷ is) = ((P.width x ≡ 32) × (P.param x ≡ n)) × Declared P is
Declared P (constant w x n ∷ is) = ((P.width x ≡ width_of P.param w) × (P.param x ≡ n)) × Declared P is
Declared P (input w x ∷ is) = (P.width x ≡ width_of P.param w) × Declared P is
Declared P (output w x ∷ is) = (P.width x ≡ width_of P.param w) × Declared P is
Declared P (reg w x ∷ is) = (P.width x ≡ width_of P.param w) × Declared P is
Declared P (memory w x k ∷ is) = ((P.width x ≡ width_of P.param w) × (P.words x ≡ amount P.param k)) × Declared P is
Declared P (wire w x e ∷ is) = (P.width x ≡ width_of P.param w) × Declared P is
Declared P (i ∷ is) = Declared P is

-- all that the unit reads of what the module declares, beside fields
abbrev pub common_items : List Item
common_items =
    constant (upto (count 64)) "OVERFLOW" (2 ^ 64) ∷ reg (upto (count 64)) "result" ∷ reg (upto (count 64)) "kept" ∷ (quarter_registers ++
    (unit_flags ++ (reg (upto (count 64)) "first" ∷ reg (upto (count 64)) "second" ∷ reg one "less" ∷ (meet_wires ++ (right_wires ++
    (met_wires ++ late_wires))))))

abbrev pub own_items : Bool → List Item
own_items false = busy_wires false
own_items true = product_registers ++ busy_wires true

abbrev pub unit_items : Bool → List Item
unit_items b = common_items ++ own_items b

-- where all has settled, with both operands told by any expressions
pub record UnitRests (P : Scope) (b : Bool) (R : Store) : Type 0 where
  pub declared : Declared P (unit_items b)
  pub rests : Rests P (unit_wires b) R
  pub first : Expr
  pub second : Expr
  pub operands : Rests P (operand_wires_of b first second) R

-- its registers
abbrev pub product_names : Bool → List String
product_names false = []
product_names true = "rest" ∷ "factor" ∷ "total" ∷ "lost" ∷ "beyond" ∷ "begun" ∷ "adds" ∷ []

abbrev pub unit_names : Bool → List String
unit_names b =
    "part0" ∷ "part1" ∷ "next1" ∷ "part2" ∷ "next2" ∷ "part3" ∷ "next3" ∷ "meets" ∷ "was_less" ∷ "spoilt" ∷ product_names b

-- those of T are those of S
abbrev pub UnitSame : Bool → Store → Store → Type 0
UnitSame b S T = (x : String) → member x (unit_names b) ≡ true → T.vec x ≡ S.vec x

-- T is behind an edge from R, where all had settled
abbrev pub After : Scope → Bool → Store → Store → Type 0
After P b R T = UnitSame b (fire P R (unit_stmt b) R) T

-- ---- what it works at

-- the second operand as it is added, where k says that it is taken away
abbrev pub added : ℕ → ℕ → ℕ
added k b = fit 64 (chosen (nonzero k) (2 ^ 64 - 1 - fit 64 (b / 2 ^ 0)) (fit 64 (b / 2 ^ 0)))

-- the quarter from bit n on of both, with a carry, as a register takes it
abbrev pub quarter : ℕ → ℕ → ℕ → ℕ → ℕ
quarter n a b c =
    fit 17 (fit 17 (fit 18 (fit 18 (0 + (fit 16 (a / 2 ^ n) * 2 ^ 1 + 1) + (0 + (fit 16 (b / 2 ^ n) * 2 ^ 1 + c)))) / 2 ^ 1))

-- the registers hold the quarters of both with a carry
pub record Quarters (a b c : ℕ) (S : Store) : Type 0 where
  pub part0 : S.vec "part0" ≡ quarter 0 a b c
  pub part1 : S.vec "part1" ≡ quarter 16 a b 0
  pub next1 : S.vec "next1" ≡ quarter 16 a b 1
  pub part2 : S.vec "part2" ≡ quarter 32 a b 0
  pub next2 : S.vec "next2" ≡ quarter 32 a b 1
  pub part3 : S.vec "part3" ≡ quarter 48 a b 0
  pub next3 : S.vec "next3" ≡ quarter 48 a b 1

abbrev pub is_over : Val → Bool
is_over (Number n) = false
is_over Overflow = true

-- an operand was an overflow
abbrev pub spoils : Val → Val → Bool
spoils u v = is_over u || is_over v

-- the lower 64 bits of a value: its number, and 0 for an overflow
abbrev pub low_of : Val → ℕ
low_of v = value_number v % 2 ^ 64

-- the bits of a number
abbrev pub bits_of : ℕ → ℕ
bits_of n = bits_for (suc n)

-- a sum, or a difference
abbrev pub sum_of : Bool → Val → Val → Val
sum_of l u v = if l then val_op Minus u v else val_op Plus u v

-- its quarters have met
pub record SumWaits (b : Bool) (v : Val) (S : Store) : Type 0 where
  pub left : Val
  pub right : Val
  pub less : Bool
  pub left_small : Small left
  pub right_small : Small right
  pub is : v ≡ sum_of less left right
  pub meets : S.vec "meets" ≡ 1
  pub idle : b ≡ true → S.vec "begun" ≡ 0
  pub was_less : S.vec "was_less" ≡ flag less
  pub spoilt : S.vec "spoilt" ≡ flag (spoils left right)
  pub quarters : Quarters (value_number left) (added (flag less) (value_number right)) (flag less) S

-- the first edge of a bit is next, or the second one, for which the quarters of the sum and of the left operand have met
abbrev pub Phase : ℕ → Product → Store → Type 0
Phase n s S =
    ((S.vec "adds" ≡ 0) × (n ≡ 2 * bits_of s.rest)) ⊎
    ((S.vec "adds" ≡ 1) × ((suc n ≡ 2 * bits_of s.rest) × Quarters s.total s.factor 0 S))

-- n edges of a product are left, and the last one
pub record ProductWaits (n : ℕ) (v : Val) (S : Store) : Type 0 where
  pub left : Val
  pub right : Val
  pub left_small : Small left
  pub right_small : Small right
  pub is : v ≡ val_op Times left right
  pub meets : S.vec "meets" ≡ 0
  pub goes : S.vec "begun" ≡ 1
  pub spoilt : S.vec "spoilt" ≡ flag (spoils left right)
  -- so many bits are done
  pub bits : ℕ
  pub product : IsProduct S (bits_done bits (begun (low_of left) (low_of right)))
  pub phase : Phase n (bits_done bits (begun (low_of left) (low_of right))) S

abbrev pub Free : Bool → Store → Type 0
Free false S = S.vec "meets" ≡ 0
Free true S = (S.vec "meets" ≡ 0) × (S.vec "begun" ≡ 0)

-- at the n-th edge from now it tells v; or it is free
abbrev pub Works : Bool → ℕ → Val → Store → Type 0
Works b zero v S = Free b S
Works b (suc n) v S = ((n ≡ 0) × SumWaits b v S) ⊎ ((b ≡ true) × ProductWaits n v S)

-- the edge at which a number is told, counted from the one behind which it works
abbrev pub edges_of : Operator → Val → ℕ
edges_of Times v = suc (2 * bits_of (low_of v))
edges_of o v = 1

abbrev pub is_minus : Operator → Bool
is_minus Minus = true
is_minus o = false

abbrev pub is_times : Operator → Bool
is_times Times = true
is_times o = false

-- what the wires say of it
abbrev pub NoLast : Bool → Store → Type 0
NoLast false R = Unit {0}
NoLast true R = R.vec "last" ≡ 0

abbrev pub NotYet : Bool → Store → Type 0
NotYet b R = (R.vec "meets" ≡ 0) × NoLast b R

-- the value is told: that of the quarters, or the product
abbrev pub TellsProduct : Bool → Val → Store → Type 0
TellsProduct false v R = ⊥
TellsProduct true v R = (R.vec "meets" ≡ 0) × ((R.vec "last" ≡ 1) × (R.vec "product" ≡ value_number v))

abbrev pub Tells : Bool → Val → Store → Type 0
Tells b v R = ((R.vec "meets" ≡ 1) × (R.vec "late" ≡ value_number v)) ⊎ TellsProduct b v R
