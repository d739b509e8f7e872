-- Operations on values come to values: their numbers are below 2 ^ 64.
use Rattle.std.proofs.Common.{◌⊎◌, ℕ, ◌+◌, ◌-◌, ◌*◌, ◌^◌, ◌<◌, ◌≤◌, cond, sym, subst, inl, inr, arith}
use Rattle.std.proofs.lemmas.Bool.{cases_lt, lt-ltb, le-ltb}
use Rattle.pcf_values.specs.declared.val.Val.{Val}
use Rattle.pcf_values.specs.declared.val.Val.TheVariants.{Number, Overflow}
use Rattle.pcf_values.specs.declared.operator.Operator.{Operator}
use Rattle.pcf_values.specs.declared.operator.Operator.TheVariants.{Plus, Minus, Times}
use Rattle.pcf_values.specs.Values.{within, on_numbers, val_op}

-- a number of the value is below 2 ^ 64
abbrev pub IsSmall : Val → Type 0
IsSmall (Number n) = n < 2 ^ 64
IsSmall Overflow = Unit {0}

pub within_small : (n : ℕ) → IsSmall (within n)
within_small n = go (cases_lt n (2 ^ 64))
  where
    go : (n < 2 ^ 64) ⊎ (2 ^ 64 ≤ n) → IsSmall (within n)
    go (inl l) = subst (λ b. IsSmall (cond b (Number n) Overflow)) (sym (lt-ltb n (2 ^ 64) l)) l
    go (inr l) = subst (λ b. IsSmall (cond b (Number n) Overflow)) (sym (le-ltb n (2 ^ 64) l)) tt

minus_small : (a b : ℕ) → a < 2 ^ 64 → a - b < 2 ^ 64
minus_small a b h = omega arith

-- where what is computed of two numbers is small, so is what is computed of two values
on_small : (f : ℕ → ℕ → Val) (v w : Val) → ((a b : ℕ) → a < 2 ^ 64 → IsSmall (f a b)) → IsSmall v → IsSmall (on_numbers f v w)
on_small f (Number a) (Number b) g h = g a b h
on_small f (Number a) Overflow g h = tt
on_small f Overflow w g h = tt

pub op_small : (o : Operator) (v w : Val) → IsSmall v → IsSmall (val_op o v w)
op_small Plus v w h = on_small (λ a b. within (a + b)) v w (λ a b _. within_small (a + b)) h
op_small Minus v w h = on_small (λ a b. Number (a - b)) v w minus_small h
op_small Times v w h = on_small (λ a b. within (a * b)) v w (λ a b _. within_small (a * b)) h
