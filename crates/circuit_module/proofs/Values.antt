-- Values in 65 bits.
use Rattle.std.proofs.Common.{◌≡◌, ℕ, ◌/◌, ◌%◌, ◌^◌, ◌<◌, Bool, true, false, refl, arith}
use Rattle.pcf_values.specs.declared.val.Val.{Val}
use Rattle.pcf_values.specs.declared.val.Val.TheVariants.{Number, Overflow}
use Rattle.pcf_values.specs.declared.operator.Operator.{Operator}
use Rattle.pcf_values.specs.Values.{val_op}
use Rattle.pcf_values.proofs.Arithmetic.{IsSmall, op_small as op_is_small}
use Rattle.verilog_tree.specs.Meaning.{flag, fit}
use Rattle.circuit_module.specs.Stands.{value_number, Small}

-- bit 64
pub high_number : (n : ℕ) → n < 2 ^ 64 → n / 2 ^ 64 % 2 ≡ 0
high_number n l = omega arith

-- a bit is 1 where the number is other than 0
pub fit_flag : (b : Bool) → fit 1 (flag b) ≡ flag b
fit_flag true = refl
fit_flag false = refl

pub value_low : (v : Val) → Small v → value_number v < 2 ^ 65
value_low (Number n) s = omega arith
value_low Overflow s = omega arith

-- a value whose number is small, said in either way
to_small : (v : Val) → IsSmall v → Small v
to_small (Number n) h = h
to_small Overflow h = tt

from_small : (v : Val) → Small v → IsSmall v
from_small (Number n) h = h
from_small Overflow h = tt

-- what both come to is below 2 ^ 64, where both are
pub op_small : (o : Operator) (x y : Val) → Small x → Small y → Small (val_op o x y)
op_small o x y s t = to_small (val_op o x y) (op_is_small o x y (from_small x s))
