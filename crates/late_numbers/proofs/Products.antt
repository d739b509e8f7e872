-- A product bit by bit.
use Rattle.std.proofs.Common.{◌≡◌, ℕ, zero, suc, ◌+◌, ◌*◌, ◌/◌, ◌%◌, ◌^◌, ◌<◌, ◌≤◌, Bool, true, false, cond, ◌||◌, ◌&&◌, refl, ap}
use Rattle.std.proofs.Common.{sym, ◌∙◌, arith, nat_lt, nat_le, nat_eq, pow-suc}
use Rattle.std.proofs.lemmas.Bool.{ltb-true, ltb-false, leb-true, leb-false, eqb-true, eqb-false}
use Rattle.std.proofs.Math.Nat.{mul-add, add-mul}
use Rattle.pcf_values.specs.declared.val.Val.{Val}
use Rattle.pcf_values.specs.declared.val.Val.TheVariants.{Number, Overflow}
use Rattle.pcf_values.specs.declared.operator.Operator.TheVariants.{Times}
use Rattle.pcf_values.specs.Values.{within, val_op}
use Rattle.verilog_tree.specs.Meaning.{flag, nonzero, chosen}
use Rattle.circuit_module.specs.Stands.{value_number, Small}
use Rattle.circuit_module.proofs.Values.{high_number}
use Rattle.late_numbers.specs.Product.{Product, begun, odd, bit_done, bits_done}
use Rattle.late_numbers.proofs.Quarters.{low}

-- what holds at each bit of the product p, where the left operand would be f if no bit of it were lost
record Holds (p f : ℕ) (s : Product) : Type 0 where
  pub factor : s.factor ≡ f % 2 ^ 64
  pub kept : s.lost ≡ false → f < 2 ^ 64
  pub lost : s.lost ≡ true → 2 ^ 64 ≤ f
  pub small : s.total < 2 ^ 64
  pub within : s.beyond ≡ false → s.total + f * s.rest ≡ p
  pub beyond : s.beyond ≡ true → 2 ^ 64 ≤ p

-- what is left of the product behind a bit
left_even : (f r : ℕ) → r % 2 ≡ 0 → f * r ≡ (f + f) * (r / 2)
left_even f r e =
    let h : r ≡ r / 2 + r / 2 = omega (arith, e) in
    ap (λ n. f * n) h ∙ mul-add f (r / 2) (r / 2) ∙ sym (add-mul f f (r / 2))

left_odd : (f r : ℕ) → r % 2 ≡ 1 → f * r ≡ (f + f) * (r / 2) + f
left_odd f r e =
    let h : r ≡ (r / 2 + r / 2) + 1 = omega (arith, e) in
    let a = mul-add f (r / 2 + r / 2) 1 in
    let b = mul-add f (r / 2) (r / 2) in
    let c = add-mul f f (r / 2) in
    let d : f * 1 ≡ f = omega arith in
    ap (λ n. f * n) h ∙ a ∙ omega (arith, b, c, d)

-- each bit keeps it
module _ (p f : ℕ) (s : Product) (h : Holds p f s) where
  abbrev t : ℕ
  t = s.total

  abbrev F : ℕ
  F = s.factor

  kept_on : (l m : Bool) → s.lost ≡ l → nat_le (2 ^ 63) F ≡ m → (l || m) ≡ false → f + f < 2 ^ 64
  kept_on false false e g z =
      let a = h.kept e in
      let b = leb-false (2 ^ 63) F g in
      let c = h.factor in
      omega arith
  kept_on false true e g z = absurd cc
  kept_on true m e g z = absurd cc

  lost_on : (l m : Bool) → s.lost ≡ l → nat_le (2 ^ 63) F ≡ m → (l || m) ≡ true → 2 ^ 64 ≤ f + f
  lost_on false false e g z = absurd cc
  lost_on false true e g z =
      let b = leb-true (2 ^ 63) F g in
      let c = h.factor in
      omega arith
  lost_on true m e g z = let a = h.lost e in omega arith

  small_on : (o : Bool) → cond o ((t + F) % 2 ^ 64) t < 2 ^ 64
  small_on true = omega arith
  small_on false = h.small

  -- the factor is whole, where no bit of it is lost
  whole_factor : s.lost ≡ false → F ≡ f
  whole_factor e = let a = h.kept e in let c = h.factor in omega arith

  within_on : (b o l q : Bool) → s.beyond ≡ b → nat_eq (s.rest % 2) 1 ≡ o → s.lost ≡ l → nat_le (2 ^ 64) (t + F) ≡ q →
      (b || (o && (l || q))) ≡ false → cond o ((t + F) % 2 ^ 64) t + (f + f) * (s.rest / 2) ≡ p
  within_on true o l q d e g k z = absurd cc
  within_on false false l q d e g k z =
      let w = h.within d in
      let n = eqb-false (s.rest % 2) 1 e in
      let c = left_even f s.rest (omega arith) in
      omega (arith, w, c)
  within_on false true true q d e g k z = absurd cc
  within_on false true false true d e g k z = absurd cc
  within_on false true false false d e g k z =
      let w = h.within d in
      let n = eqb-true (s.rest % 2) 1 e in
      let c = left_odd f s.rest n in
      let y = leb-false (2 ^ 64) (t + F) k in
      let x = whole_factor g in
      omega (arith, w, c, x, y)

  beyond_on : (b o l q : Bool) → s.beyond ≡ b → nat_eq (s.rest % 2) 1 ≡ o → s.lost ≡ l → nat_le (2 ^ 64) (t + F) ≡ q →
      (b || (o && (l || q))) ≡ true → 2 ^ 64 ≤ p
  beyond_on true o l q d e g k z = h.beyond d
  beyond_on false false l q d e g k z = absurd cc
  beyond_on false true true q d e g k z =
      let w = h.within d in
      let c = left_odd f s.rest (eqb-true (s.rest % 2) 1 e) in
      let x = h.lost g in
      omega (arith, w, c, x)
  beyond_on false true false true d e g k z =
      let w = h.within d in
      let c = left_odd f s.rest (eqb-true (s.rest % 2) 1 e) in
      let y = leb-true (2 ^ 64) (t + F) k in
      let x = whole_factor g in
      omega (arith, w, c, x, y)
  beyond_on false true false false d e g k z = absurd cc

  bit_holds : Holds p (f + f) (bit_done s)
  bit_holds = record {
    factor = let c = h.factor in omega arith;
    kept = kept_on s.lost (nat_le (2 ^ 63) F) refl refl;
    lost = lost_on s.lost (nat_le (2 ^ 63) F) refl refl;
    small = small_on (odd s);
    within = within_on s.beyond (odd s) s.lost (nat_le (2 ^ 64) (t + F)) refl refl refl refl;
    beyond = beyond_on s.beyond (odd s) s.lost (nat_le (2 ^ 64) (t + F)) refl refl refl refl;
  }

-- what is told at the end
abbrev told : Product → Val
told s = cond s.beyond Overflow (Number s.total)

-- after all bits
bits_tell : (k p f : ℕ) (s : Product) → Holds p f s → (bits_done k s).rest ≡ 0 → told (bits_done k s) ≡ within p
bits_tell (suc k) p f s h e = bits_tell k p (f + f) (bit_done s) (bit_holds p f s h) e
bits_tell zero p f s h e = go s.beyond refl
  where
    go : (b : Bool) → s.beyond ≡ b → cond b Overflow (Number s.total) ≡ within p
    go true d = over (nat_lt p (2 ^ 64)) refl
      where
        over : (c : Bool) → nat_lt p (2 ^ 64) ≡ c → Overflow ≡ cond c (Number p) Overflow
        over true g = let x = ltb-true p (2 ^ 64) g in let y = h.beyond d in absurd (omega arith)
        over false g = refl
    go false d = under (nat_lt p (2 ^ 64)) refl
      where
        is : s.total ≡ p
        is = let w = h.within d in let z = ap (λ n. f * n) e in let y : f * 0 ≡ 0 = omega arith in omega (arith, w, z, y)

        under : (c : Bool) → nat_lt p (2 ^ 64) ≡ c → Number s.total ≡ cond c (Number p) Overflow
        under true g = ap Number is
        under false g = let x = ltb-false p (2 ^ 64) g in let y = h.small in absurd (omega (arith, x, y, is))

-- where no bit is left, that is the product
product_is_told : (a b : ℕ) → a < 2 ^ 64 → (k : ℕ) → (bits_done k (begun a b)).rest ≡ 0 → told (bits_done k (begun a b)) ≡ within (a * b)
product_is_told a b l k e =
    bits_tell k (a * b) a (begun a b) (record {
      factor = omega arith;
      kept = λ z. l;
      lost = λ z. absurd cc;
      small = omega arith;
      within = λ z. omega arith;
      beyond = λ z. absurd cc;
    }) e

-- ---- the value of a product

-- told by the highest bits of both operands, by whether the sum was too large, and by the sum
abbrev value_by : (h g b t : ℕ) → ℕ
value_by h g b t = chosen (nonzero (flag (nonzero h || nonzero (flag (nonzero g || nonzero b))))) (2 ^ 64) (0 * 2 ^ 64 + t)

abbrev pub value_told : (k r b t : ℕ) → ℕ
value_told k r b t = value_by (k / 2 ^ 64 % 2) (r / 2 ^ 64 % 2) b t

-- where neither is an overflow
told_number : (s : Product) → value_by 0 0 (flag s.beyond) s.total ≡ value_number (told s)
told_number s = go s.beyond
  where
    go : (b : Bool) → value_by 0 0 (flag b) s.total ≡ value_number (cond b Overflow (Number s.total))
    go true = refl
    go false = omega arith

-- and that of both values
pub value_is : (u v : Val) → Small u → Small v → (k : ℕ) →
    let s : Product = bits_done k (begun (value_number u % 2 ^ 64) (value_number v % 2 ^ 64)) in
    s.rest ≡ 0 → value_told (value_number u) (value_number v) (flag s.beyond) s.total ≡ value_number (val_op Times u v)
value_is Overflow v su sv k e = refl
value_is (Number a) Overflow su sv k e =
    let s : Product = bits_done k (begun (a % 2 ^ 64) 0) in ap (λ h. value_by h 1 (flag s.beyond) s.total) (high_number a su)
value_is (Number a) (Number b) su sv k e =
    let s : Product = bits_done k (begun (a % 2 ^ 64) (b % 2 ^ 64)) in
    let h = high_number a su in
    let g = high_number b sv in
    let x = low a su in
    let y = low b sv in
    (λ i. value_by (h i) (g i) (flag s.beyond) s.total) ∙ told_number s
    ∙ ap value_number (product_is_told (a % 2 ^ 64) (b % 2 ^ 64) (omega arith) k e) ∙ (λ i. value_number (within (x i * y i)))
