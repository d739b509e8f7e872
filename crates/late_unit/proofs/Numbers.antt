-- Numbers of the unit: the value that its wires tell, of quarters and of products; and bits.
use Rattle.std.proofs.Common.{◌≡◌, ◌<◌, ◌≤◌, ℕ, zero, suc, ◌+◌, ◌*◌, ◌/◌, ◌%◌, ◌^◌, Bool, true, false, ◌||◌, ◌&&◌, refl, ap, sym}
use Rattle.std.proofs.Common.{◌∙◌, arith, pow-suc, nat_eq}
use Rattle.pcf_values.specs.declared.val.Val.{Val}
use Rattle.pcf_values.specs.declared.val.Val.TheVariants.{Number, Overflow}
use Rattle.pcf_values.specs.declared.operator.Operator.TheVariants.{Times}
use Rattle.pcf_values.specs.Values.{val_op}
use Rattle.verilog_tree.specs.Meaning.{flag, fit, nonzero, chosen}
use Rattle.circuit_module.specs.Stands.{value_number, Small}
use Rattle.circuit_module.proofs.Values.{high_number}
use Rattle.circuit_module.proofs.Sizes.{enough_bits, few_bits}
use Rattle.late_numbers.specs.Product.{Product, begun, bit_done, bits_done}
use Rattle.late_numbers.proofs.Quarters.{right, late_of, joined_low, whole, whole_sum, whole_less}
use Rattle.late_numbers.proofs.Products.{value_is}
use Rattle.late_numbers.proofs.OneBit.{number_of}
use Rattle.late_unit.specs.Works.{added, quarter, is_over, spoils, low_of, bits_of, sum_of}

-- ---- flags

-- the bit that says overflow
over_is : (v : Val) → Small v → nonzero (value_number v / 2 ^ 64 % 2) ≡ is_over v
over_is (Number n) s = ap nonzero (high_number n s)
over_is Overflow s = refl

-- what the register takes of both
pub spoilt_is : (x y : Val) → Small x → Small y →
    fit 1 (flag (nonzero (value_number x / 2 ^ 64 % 2) || nonzero (value_number y / 2 ^ 64 % 2))) ≡ flag (spoils x y)
spoilt_is x y s t =
    let a = over_is x s in let b = over_is y t in (λ i. fit 1 (flag (a i || b i))) ∙ go (is_over x) (is_over y)
  where
    go : (a b : Bool) → fit 1 (flag (a || b)) ≡ flag (a || b)
    go true b = refl
    go false true = refl
    go false false = refl

-- ---- a sum or a difference

-- what `late` comes to, by whether an operand was an overflow, by what is wanted, and by the quarters
abbrev pub late_by : (sp k p0 p1 n1 p2 n2 p3 n3 : ℕ) → ℕ
late_by sp k p0 p1 n1 p2 n2 p3 n3 =
    let r1 : ℕ = right p0 p1 n1 in
    let r2 : ℕ = right r1 p2 n2 in
    let r3 : ℕ = right r2 p3 n3 in
    fit 65 (chosen (nonzero (fit 1 (flag (nonzero sp || nonzero (flag (nonzero (flag (nat_eq k 0)) && nonzero (r3 / 2 ^ 16 % 2)))))))
    (2 ^ 64) (chosen (nonzero (fit 1 (flag (nonzero k && nonzero (flag (nat_eq (r3 / 2 ^ 16 % 2) 0)))))) 0 (0 + number_of p0 r1 r2 r3)))

late_told : (a b c d : Bool) (r : ℕ) → r < 2 ^ 64 →
    fit 65 (chosen (nonzero (fit 1 (flag (nonzero (flag (a || b)) || c)))) (2 ^ 64) (chosen d 0 (0 + fit 64 r))) ≡
    fit 65 (chosen (nonzero (fit 1 (flag (a || nonzero (flag (b || c)))))) (2 ^ 64) (chosen d 0 (0 + r)))
late_told true b c d r l = refl
late_told false true c d r l = refl
late_told false false true d r l = refl
late_told false false false true r l = refl
late_told false false false false r l = omega arith

module _ (x y : Val) (s : Small x) (t : Small y) (k p0 p1 n1 p2 n2 p3 n3 : ℕ) where
  abbrev r1 : ℕ
  r1 = right p0 p1 n1

  abbrev r2 : ℕ
  r2 = right r1 p2 n2

  abbrev r3 : ℕ
  r3 = right r2 p3 n3

  abbrev c : Bool
  c = nonzero (flag (nonzero (flag (nat_eq k 0)) && nonzero (r3 / 2 ^ 16 % 2)))

  abbrev d : Bool
  d = nonzero (fit 1 (flag (nonzero k && nonzero (flag (nat_eq (r3 / 2 ^ 16 % 2) 0)))))

  abbrev joins : ℕ
  joins = fit 16 (r3 / 2 ^ 0) * 2 ^ 48 + (fit 16 (r2 / 2 ^ 0) * 2 ^ 32 + (fit 16 (r1 / 2 ^ 0) * 2 ^ 16 + fit 16 (p0 / 2 ^ 0)))

  late_same : late_by (flag (spoils x y)) k p0 p1 n1 p2 n2 p3 n3 ≡ late_of (value_number x) (value_number y) k p0 p1 n1 p2 n2 p3 n3
  late_same =
      let a = over_is x s in
      let b = over_is y t in
      late_told (is_over x) (is_over y) c d joins (joined_low (r3 / 2 ^ 0) (r2 / 2 ^ 0) (r1 / 2 ^ 0) (p0 / 2 ^ 0))
      ∙ sym (λ i. fit 65 (chosen (nonzero (fit 1 (flag (a i || nonzero (flag (b i || c)))))) (2 ^ 64) (chosen d 0 (0 + joins))))

whole_of : (l : Bool) (x y : Val) → Small x → Small y → whole (flag l) (value_number x) (value_number y) ≡ value_number (sum_of l x y)
whole_of true x y s t = whole_less x y s t
whole_of false x y s t = whole_sum x y s t

-- of the quarters of both operands it is the sum or the difference
pub late_value : (l : Bool) (x y : Val) → Small x → Small y →
    let a : ℕ = value_number x in
    let d : ℕ = added (flag l) (value_number y) in
    late_by (flag (spoils x y)) (flag l) (quarter 0 a d (flag l)) (quarter 16 a d 0) (quarter 16 a d 1) (quarter 32 a d 0)
    (quarter 32 a d 1) (quarter 48 a d 0) (quarter 48 a d 1) ≡ value_number (sum_of l x y)
late_value l x y s t =
    let a : ℕ = value_number x in
    let d : ℕ = added (flag l) (value_number y) in
    late_same x y s t (flag l) (quarter 0 a d (flag l)) (quarter 16 a d 0) (quarter 16 a d 1) (quarter 32 a d 0) (quarter 32 a d 1)
    (quarter 48 a d 0) (quarter 48 a d 1) ∙ whole_of l x y s t

-- ---- a product

product_by : (a b c : Bool) (t : ℕ) → t < 2 ^ 64 →
    fit 65 (chosen (nonzero (flag (nonzero (flag (a || b)) || nonzero (flag c)))) (2 ^ 64) (0 + t)) ≡
    chosen (nonzero (flag (a || nonzero (flag (b || nonzero (flag c)))))) (2 ^ 64) (0 * 2 ^ 64 + t)
product_by true b c t l = refl
product_by false true c t l = refl
product_by false false true t l = refl
product_by false false false t l = omega arith

-- what `product` comes to where no bit is left
pub product_value : (x y : Val) → Small x → Small y → (k : ℕ) → (bits_done k (begun (low_of x) (low_of y))).rest ≡ 0 →
    (bits_done k (begun (low_of x) (low_of y))).total < 2 ^ 64 →
    fit 65 (chosen (nonzero (flag (nonzero (flag (spoils x y)) ||
    nonzero (flag (bits_done k (begun (low_of x) (low_of y))).beyond)))) (2 ^ 64)
    (0 + (bits_done k (begun (low_of x) (low_of y))).total)) ≡ value_number (val_op Times x y)
product_value x y s t k e l =
    let a = over_is x s in
    let b = over_is y t in
    product_by (is_over x) (is_over y) (bits_done k (begun (low_of x) (low_of y))).beyond
    (bits_done k (begun (low_of x) (low_of y))).total l
    ∙ sym (λ i. chosen (nonzero (flag (a i || nonzero (flag (b i || nonzero (flag (bits_done k (begun (low_of x) (low_of y))).beyond))))))
    (2 ^ 64) (0 * 2 ^ 64 + (bits_done k (begun (low_of x) (low_of y))).total))
    ∙ value_is x y s t k e

-- a bit after so many
pub bit_after : (k : ℕ) (s : Product) → bit_done (bits_done k s) ≡ bits_done (suc k) s
bit_after zero s = refl
bit_after (suc k) s = bit_after k (bit_done s)

-- ---- bits

bits_enough : (n : ℕ) → n < 2 ^ bits_of n
bits_enough n = let h = enough_bits (suc n) in omega arith

bits_least : (n k : ℕ) → n < 2 ^ k → bits_of n ≤ k
bits_least n k l = few_bits (suc n) k (omega arith)

-- there is a bit where the number isn't 0, and one less of its half
pub bits_halve : (n : ℕ) → (n ≡ 0 → ⊥) → bits_of n ≡ suc (bits_of (n / 2))
bits_halve n some = go (bits_of n) (bits_of (n / 2)) (bits_enough n) (bits_least n) (bits_enough (n / 2)) (bits_least (n / 2))
  where
    go : (b c : ℕ) → n < 2 ^ b → ((k : ℕ) → n < 2 ^ k → b ≤ k) → n / 2 < 2 ^ c → ((k : ℕ) → n / 2 < 2 ^ k → c ≤ k) → b ≡ suc c
    go zero c l f m g = absurd (some (omega arith))
    go (suc b) c l f m g =
        let p = pow-suc 2 b in
        let q = pow-suc 2 c in
        let x = f (suc c) (omega (arith, m, q)) in
        let y = g b (omega (arith, l, p)) in
        omega (arith, x, y)
