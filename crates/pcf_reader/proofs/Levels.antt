-- The operators by their signs: the level of an operator's form, and the sign that stands between types.
use Rattle.std.proofs.Common.{◌≡◌, true, IsTrue, IsFalse, cond, refl, sym, ap, ◌∙◌, if◌then◌else◌}
use Rattle.pcf_values.specs.declared.operator.Operator.{Operator}
use Rattle.pcf_values.proofs.Operators.{for_each}
use Rattle.pcf_reader.specs.Tokens.{Token, Sign, is_sum, star}
use Rattle.pcf_reader.specs.Machine.{is_star}
use Rattle.pcf_reader.specs.Printed.{op_level, right_level}

-- the levels of its form and of its right operand
pub sum_level : (op : Operator) → IsTrue (is_sum op) → op_level op ≡ 3
sum_level op is = ap (λ b. if b then 3 else 2) is

pub sum_right : (op : Operator) → IsTrue (is_sum op) → right_level op ≡ 2
sum_right op is = ap (λ b. if b then 2 else 1) is

pub product_level : (op : Operator) → IsFalse (is_sum op) → op_level op ≡ 2
product_level op is = ap (λ b. if b then 3 else 2) is

pub product_right : (op : Operator) → IsFalse (is_sum op) → right_level op ≡ 1
product_right op is = ap (λ b. if b then 2 else 1) is

-- no other token is taken for the one between types
pub star_is : (x : Token) → is_star x ≡ true → x ≡ star
star_is (Sign op) h = sym (ap (λ b. cond b (Sign op) star) h) ∙ one op
  where
    one : (op : Operator) → cond (is_star (Sign op)) (Sign op) star ≡ star
    one = for_each _ _ refl
star_is x h = cc
