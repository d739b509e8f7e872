-- Values and what the operations on them come to.
-- A value is a number below 2 ^ 64, or `overflow`. The operations compute on unbounded numbers and compare once with the limit, so
-- that no definition speaks of machine words. The three strict operators are the code's own enum, with one meaning function: each
-- rule that treats them alike is then stated once.
use Rattle.std.specs.Prelude.{ℕ, zero, suc, ◌+◌, ◌-◌, ◌*◌, ◌^◌, nat_lt, if◌then◌else◌}
use Rattle.pcf_values.specs.declared.val.Val.{Val}
use Rattle.pcf_values.specs.declared.val.Val.TheVariants.{Number, Overflow}
use Rattle.pcf_values.specs.declared.operator.Operator.{Operator}
use Rattle.pcf_values.specs.declared.operator.Operator.TheVariants.{Plus, Minus, Times}

-- the number where it is below 2 ^ 64, and else overflow
abbrev pub within : ℕ → Val
within n = if nat_lt n (2 ^ 64) then Number n else Overflow

abbrev pub val_succ : Val → Val
val_succ (Number n) = within (n + 1)
val_succ Overflow = Overflow

-- 0 stays 0
abbrev pub val_pred : Val → Val
val_pred (Number zero) = Number zero
val_pred (Number (suc n)) = Number n
val_pred Overflow = Overflow

-- the operation where both are numbers, and overflow where one isn't
abbrev pub on_numbers : (ℕ → ℕ → Val) → Val → Val → Val
on_numbers f (Number a) (Number b) = f a b
on_numbers f (Number a) Overflow = Overflow
on_numbers f Overflow b = Overflow

-- what a strict operator, which asks both operands, comes to, the left operand's value first; a difference below 0 is 0
abbrev pub val_op : Operator → Val → Val → Val
val_op Plus u v = on_numbers (λ a b. within (a + b)) u v
val_op Minus u v = on_numbers (λ a b. Number (a - b)) u v
val_op Times u v = on_numbers (λ a b. within (a * b)) u v

-- the branch that a test takes: the first at 0, and else the second
abbrev pub at_zero : {A : Type 0} → Val → A → A → A
at_zero (Number zero) a b = a
at_zero (Number (suc n)) a b = b
at_zero Overflow a b = b
