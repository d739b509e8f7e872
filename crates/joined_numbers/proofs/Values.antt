-- The values that a row's numbers come to.
use Rattle.std.proofs.Common.{◌≡◌, ℕ, zero, suc, ◌-◌, Bool, true, false, cond, Option, Some, None}
use Rattle.std.proofs.Common.{refl, ap, ◌∙◌, arith}
use Rattle.std.specs.Prelude.{nat_lt, ◌^◌}
use Rattle.std.proofs.lemmas.Bool.{and_parts}
use Rattle.pcf_values.specs.declared.val.Val.{Val}
use Rattle.pcf_values.specs.declared.val.Val.TheVariants.{Number, Overflow}
use Rattle.pcf_values.specs.declared.operator.Operator.TheVariants.{Plus, Minus}
use Rattle.pcf_values.specs.Values.{val_succ, val_pred, val_op}
use Rattle.joined_rows.specs.Open.{Amount, some, known, more_than, less_than, both, Walker, asks, says}
use Rattle.joined_rows.specs.Ticks.{NamedHalf, waiting, left}
use Rattle.joined_core.specs.Circuit.{amount_of, value_of, half_answer, left_answer}
use Rattle.joined_module.specs.Rows.{Operand, the_value, the_kept, a_literal, a_port}
use Rattle.joined_module.specs.Rows.{number_operand, operand, taken_worth, worth, walker_worth, half_kept, half_answered, is_small}
use Rattle.joined_module.specs.Rows.{is_worth}
use Rattle.joined_module.specs.Rows.{walker_fits, half_came}
use Rattle.joined_module.specs.Machine.{RowCircuit, operand_value, worth_value, operand_option, value_or_zero}
use Rattle.joined_numbers.specs.At.{port_value, amount_at, walker_at, half_at}

one_more : (v : Val) → val_op Plus v (Number 1) ≡ val_succ v
one_more (Number n) = refl
one_more Overflow = refl

one_less : (v : Val) → val_op Minus v (Number 1) ≡ val_pred v
one_less (Number zero) = refl
one_less (Number (suc n)) = let e : suc n - 1 ≡ n = omega arith in ap Number e
one_less Overflow = refl

-- a left answer that came is an operand
abbrev pub half_small : NamedHalf → Bool
half_small (waiting q) = true
half_small (left a) = is_small a

pub left_is : (o : Option Val) → value_or_zero o ≡ left_answer o
left_is None = refl
left_is (Some v) = refl

module _ (ps : ℕ → ℕ) (D : RowCircuit) where
  -- a number is itself or the one at its port
  number_is : (n : ℕ) → operand_value ps D (number_operand n) ≡ Number (port_value ps n)
  number_is n = go (nat_lt n (2 ^ 64))
    where
      go : (b : Bool) → operand_value ps D (cond b (a_literal n) (a_port (n - 2 ^ 64))) ≡ Number (cond b n (ps (n - 2 ^ 64)))
      go true = refl
      go false = refl

  -- an operand has the number that it is told
  taken_is : (x : Operand) → worth_value ps D (taken_worth x) ≡ operand_value ps D x
  taken_is the_value = refl
  taken_is the_kept = refl
  taken_is (a_literal n) = refl
  taken_is (a_port i) = refl

  module _ (f : ℕ → Operand) (vs : ℕ → Val) (h : (n : ℕ) → operand_value ps D (f n) ≡ vs n) where
    pub operand_is : (a : Amount) → is_small a ≡ true → operand_value ps D (operand f a) ≡ amount_of vs (amount_at ps a)
    operand_is (some n) e = h n
    operand_is (known (Number n)) e = number_is n
    operand_is a e = absurd cc

    worth_is : (a : Amount) → is_worth a ≡ true → worth_value ps D (worth f a) ≡ amount_of vs (amount_at ps a)
    worth_is (some n) e = taken_is (f n) ∙ h n
    worth_is (known (Number n)) e = taken_is (number_operand n) ∙ number_is n
    worth_is (known Overflow) e = absurd cc
    worth_is (more_than a) e =
        ap (λ v. val_op Plus v (Number 1)) (operand_is a e) ∙ one_more (amount_of vs (amount_at ps a))
    worth_is (less_than a) e =
        ap (λ v. val_op Minus v (Number 1)) (operand_is a e) ∙ one_less (amount_of vs (amount_at ps a))
    worth_is (both o a b) e =
        let p = and_parts (is_small a) (is_small b) e in
        ap (λ v. val_op o v (operand_value ps D (operand f b))) (operand_is a p.0)
        ∙ ap (val_op o (amount_of vs (amount_at ps a))) (operand_is b p.1)

    -- the value after a row
    pub walker_is : (x : Walker) → walker_fits x ≡ true →
        worth_value ps D (walker_worth f x) ≡ value_of D.value (amount_of vs) (walker_at ps x)
    walker_is (asks s) e = refl
    walker_is (says a s) e = worth_is a e

    -- what a fork keeps
    pub kept_is : (g : NamedHalf) → half_small g ≡ true → operand_option ps D (half_kept f g) ≡ half_answer (amount_of vs) (half_at ps g)
    kept_is (waiting q) e = refl
    kept_is (left a) e = ap Some (operand_is a e)

    pub answered_is : (g : NamedHalf) → half_came g ≡ true →
        Some (operand_value ps D (half_answered f g)) ≡ half_answer (amount_of vs) (half_at ps g)
    answered_is (left (some zero)) e = ap Some (h zero)
    answered_is (left (known (Number n))) e = ap Some (number_is n)
    answered_is g e = absurd cc
