-- The quarters of a sum and of a difference, put together.
use Rattle.std.proofs.Common.{◌≡◌, ℕ, zero, suc, ◌+◌, ◌-◌, ◌*◌, ◌/◌, ◌%◌, ◌^◌, ◌<◌, Bool, true, false, cond, ◌||◌, ◌&&◌, refl, ap, add-zero}
use Rattle.std.proofs.Common.{sym, ◌∙◌, arith, nat_eq, nat_lt, subst}
use Rattle.std.proofs.lemmas.Bool.{ltb-true, ltb-false}
use Rattle.pcf_values.specs.declared.val.Val.{Val}
use Rattle.pcf_values.specs.declared.val.Val.TheVariants.{Number, Overflow}
use Rattle.pcf_values.specs.declared.operator.Operator.TheVariants.{Plus, Minus}
use Rattle.pcf_values.specs.Values.{within, val_op}
use Rattle.verilog_tree.specs.Meaning.{flag, fit, nonzero, chosen}
use Rattle.circuit_module.specs.Stands.{value_number, Small}
use Rattle.circuit_module.proofs.Values.{high_number}

-- the second operand as it is added, where k says that it is taken away
abbrev pub added : ℕ → ℕ → ℕ
added k b = fit 64 (chosen (nonzero k) (2 ^ 64 - 1 - fit 64 (b / 2 ^ 0)) (fit 64 (b / 2 ^ 0)))

-- numbers of 64 bits as registers keep them
pub low : (n : ℕ) → n < 2 ^ 64 → n % 2 ^ 64 ≡ n
low n l = omega arith

pub whole_first : (n : ℕ) → n < 2 ^ 64 → fit 65 (0 * 2 ^ 64 + n) ≡ n
whole_first n l = omega arith

pub bit_low : (n : ℕ) → n % 2 < 2
bit_low n = omega arith

-- the quarter from bit n on of both, with a carry, as a register takes it
abbrev pub quarter : ℕ → ℕ → ℕ → ℕ → ℕ
quarter n a b c =
    fit 17 (fit 17 (fit 18 (fit 18 (0 + (fit 16 (a / 2 ^ n) * 2 ^ 1 + 1) + (0 + (fit 16 (b / 2 ^ n) * 2 ^ 1 + c)))) / 2 ^ 1))

-- the upper quarter that is right, by the carry of the lower one
abbrev pub right : ℕ → ℕ → ℕ → ℕ
right l p n = fit 17 (chosen (nonzero (l / 2 ^ 16 % 2)) n p)

-- what `late` comes to, told by the operands, by what is wanted, and by the quarters
abbrev pub late_of : (a b k p0 p1 n1 p2 n2 p3 n3 : ℕ) → ℕ
late_of a b k p0 p1 n1 p2 n2 p3 n3 =
    let r1 : ℕ = right p0 p1 n1 in
    let r2 : ℕ = right r1 p2 n2 in
    let r3 : ℕ = right r2 p3 n3 in
    fit 65 (chosen (nonzero (fit 1 (flag (nonzero (a / 2 ^ 64 % 2) || nonzero (flag (nonzero (b / 2 ^ 64 % 2) ||
    nonzero (flag (nonzero (flag (nat_eq k 0)) && nonzero (r3 / 2 ^ 16 % 2)))))))))
    (2 ^ 64) (chosen (nonzero (fit 1 (flag (nonzero k && nonzero (flag (nat_eq (r3 / 2 ^ 16 % 2) 0)))))) 0
    (0 + (fit 16 (r3 / 2 ^ 0) * 2 ^ 48 + (fit 16 (r2 / 2 ^ 0) * 2 ^ 32 + (fit 16 (r1 / 2 ^ 0) * 2 ^ 16 + fit 16 (p0 / 2 ^ 0)))))))

-- a number of 16 bits from bit n on
abbrev of16 : ℕ → ℕ → ℕ
of16 n a = fit 16 (a / 2 ^ n)

quarter_sum : (x y c : ℕ) → x < 2 ^ 16 → y < 2 ^ 16 → c < 2 →
    fit 17 (fit 17 (fit 18 (fit 18 (0 + (x * 2 ^ 1 + 1) + (0 + (y * 2 ^ 1 + c)))) / 2 ^ 1)) ≡ x + y + c
quarter_sum x y c lx ly lc = omega arith

quarter_is : (n a b c : ℕ) → c < 2 → quarter n a b c ≡ of16 n a + of16 n b + c
quarter_is n a b c l = quarter_sum (of16 n a) (of16 n b) c (below (a / 2 ^ n)) (below (b / 2 ^ n)) l
  where
    below : (m : ℕ) → fit 16 m < 2 ^ 16
    below m = omega arith

-- the right one has the carry from below
right_sum : (b x : ℕ) → b < 2 → x + 1 < 2 ^ 17 → fit 17 (chosen (nonzero b) (x + 1) x) ≡ x + b
right_sum zero x l m = omega arith
right_sum (suc zero) x l m = omega arith
right_sum (suc (suc b)) x l m = absurd (omega arith)

module _ (a b k : ℕ) (la : a < 2 ^ 64) (lb : b < 2 ^ 64) (lk : k < 2) where
  abbrev pair : ℕ → ℕ
  pair n = of16 n a + of16 n b

  pair_low : (n : ℕ) → pair n + 1 < 2 ^ 17
  pair_low n = low (a / 2 ^ n) (b / 2 ^ n)
    where
      low : (x y : ℕ) → fit 16 x + fit 16 y + 1 < 2 ^ 17
      low x y = omega arith

  abbrev q0 : ℕ
  q0 = quarter 0 a b k

  abbrev r1 : ℕ
  r1 = right q0 (quarter 16 a b 0) (quarter 16 a b 1)

  abbrev r2 : ℕ
  r2 = right r1 (quarter 32 a b 0) (quarter 32 a b 1)

  abbrev r3 : ℕ
  r3 = right r2 (quarter 48 a b 0) (quarter 48 a b 1)

  right_is : (l n : ℕ) → right l (quarter n a b 0) (quarter n a b 1) ≡ pair n + l / 2 ^ 16 % 2
  right_is l n =
      let e : quarter n a b 0 ≡ pair n = quarter_is n a b 0 (omega arith) ∙ add-zero (pair n) in
      let f : quarter n a b 1 ≡ pair n + 1 = quarter_is n a b 1 (omega arith) in
      (λ i. fit 17 (chosen (nonzero (l / 2 ^ 16 % 2)) (f i) (e i))) ∙ right_sum (l / 2 ^ 16 % 2) (pair n) (omega arith) (pair_low n)

  -- both parts of a quarter with a carry
  split : (x : ℕ) → x < 2 ^ 17 → x ≡ x / 2 ^ 16 % 2 * 2 ^ 16 + fit 16 (x / 2 ^ 0)
  split x l = omega arith

  low_enough : (x m : ℕ) → x + 1 < 2 ^ 17 → m < 2 → x + m < 2 ^ 17
  low_enough x m l h = omega arith

  -- the four quarters and the carry out of the highest are the sum
  abbrev pub joined : ℕ
  joined = fit 16 (r3 / 2 ^ 0) * 2 ^ 48 + (fit 16 (r2 / 2 ^ 0) * 2 ^ 32 + (fit 16 (r1 / 2 ^ 0) * 2 ^ 16 + fit 16 (q0 / 2 ^ 0)))

  abbrev pub carry : ℕ
  carry = r3 / 2 ^ 16 % 2

  pub all_joined : carry * 2 ^ 64 + joined ≡ a + b + k
  all_joined =
      let e0 = quarter_is 0 a b k lk in
      let e1 = right_is q0 16 in
      let e2 = right_is r1 32 in
      let e3 = right_is r2 48 in
      let s0 = split q0 (subst (λ x. x < 2 ^ 17) (sym e0) (low_enough (pair 0) k (pair_low 0) lk)) in
      let s1 = split r1 (subst (λ x. x < 2 ^ 17) (sym e1) (low_enough (pair 16) (q0 / 2 ^ 16 % 2) (pair_low 16) (bit_low (q0 / 2 ^ 16)))) in
      let s2 = split r2 (subst (λ x. x < 2 ^ 17) (sym e2) (low_enough (pair 32) (r1 / 2 ^ 16 % 2) (pair_low 32) (bit_low (r1 / 2 ^ 16)))) in
      let s3 = split r3 (subst (λ x. x < 2 ^ 17) (sym e3) (low_enough (pair 48) (r2 / 2 ^ 16 % 2) (pair_low 48) (bit_low (r2 / 2 ^ 16)))) in
      together q0 r1 r2 r3 (q0 / 2 ^ 16 % 2) (r1 / 2 ^ 16 % 2) (r2 / 2 ^ 16 % 2) carry
      (fit 16 (q0 / 2 ^ 0)) (fit 16 (r1 / 2 ^ 0)) (fit 16 (r2 / 2 ^ 0)) (fit 16 (r3 / 2 ^ 0)) e0 e1 e2 e3 s0 s1 s2 s3
    where
      parts : (x : ℕ) → x < 2 ^ 64 → x ≡ of16 48 x * 2 ^ 48 + (of16 32 x * 2 ^ 32 + (of16 16 x * 2 ^ 16 + of16 0 x))
      parts x l = omega arith

      together : (x0 x1 x2 x3 c0 c1 c2 c3 f0 f1 f2 f3 : ℕ) → x0 ≡ pair 0 + k → x1 ≡ pair 16 + c0 → x2 ≡ pair 32 + c1 → x3 ≡ pair 48 + c2 →
          x0 ≡ c0 * 2 ^ 16 + f0 → x1 ≡ c1 * 2 ^ 16 + f1 → x2 ≡ c2 * 2 ^ 16 + f2 → x3 ≡ c3 * 2 ^ 16 + f3 →
          c3 * 2 ^ 64 + (f3 * 2 ^ 48 + (f2 * 2 ^ 32 + (f1 * 2 ^ 16 + f0))) ≡ a + b + k
      together x0 x1 x2 x3 c0 c1 c2 c3 f0 f1 f2 f3 e0 e1 e2 e3 s0 s1 s2 s3 =
          linear (of16 0 a) (of16 16 a) (of16 32 a) (of16 48 a) (of16 0 b) (of16 16 b) (of16 32 b) (of16 48 b) x0 x1 x2 x3 c0 c1 c2 c3
          f0 f1 f2 f3 a b (parts a la) (parts b lb) e0 e1 e2 e3 s0 s1 s2 s3
        where
          linear : (a0 a1 a2 a3 b0 b1 b2 b3 x0 x1 x2 x3 c0 c1 c2 c3 f0 f1 f2 f3 a b : ℕ) →
              a ≡ a3 * 2 ^ 48 + (a2 * 2 ^ 32 + (a1 * 2 ^ 16 + a0)) → b ≡ b3 * 2 ^ 48 + (b2 * 2 ^ 32 + (b1 * 2 ^ 16 + b0)) →
              x0 ≡ a0 + b0 + k → x1 ≡ a1 + b1 + c0 → x2 ≡ a2 + b2 + c1 → x3 ≡ a3 + b3 + c2 →
              x0 ≡ c0 * 2 ^ 16 + f0 → x1 ≡ c1 * 2 ^ 16 + f1 → x2 ≡ c2 * 2 ^ 16 + f2 → x3 ≡ c3 * 2 ^ 16 + f3 →
              c3 * 2 ^ 64 + (f3 * 2 ^ 48 + (f2 * 2 ^ 32 + (f1 * 2 ^ 16 + f0))) ≡ a + b + k
          linear a0 a1 a2 a3 b0 b1 b2 b3 x0 x1 x2 x3 c0 c1 c2 c3 f0 f1 f2 f3 a b pa pb e0 e1 e2 e3 s0 s1 s2 s3 = omega arith

-- the whole way, from the operands
abbrev pub whole : ℕ → ℕ → ℕ → ℕ
whole k a b =
    let d : ℕ = added k b in
    late_of a b k (quarter 0 a d k) (quarter 16 a d 0) (quarter 16 a d 1) (quarter 32 a d 0) (quarter 32 a d 1) (quarter 48 a d 0)
    (quarter 48 a d 1)

-- what is told of the carry c out of the highest quarter, and of the four quarters j
abbrev told_of : (high_a high_b k c j : ℕ) → ℕ
told_of ha hb k c j =
    fit 65 (chosen (nonzero (fit 1 (flag (nonzero ha || nonzero (flag (nonzero hb || nonzero
    (flag (nonzero (flag (nat_eq k 0)) && nonzero c)))))))) (2 ^ 64)
    (chosen (nonzero (fit 1 (flag (nonzero k && nonzero (flag (nat_eq c 0)))))) 0 (0 + j)))

over_second : (n k c j : ℕ) → n < 2 ^ 64 → told_of (n / 2 ^ 64 % 2) (2 ^ 64 / 2 ^ 64 % 2) k c j ≡ 2 ^ 64
over_second n k c j l = ap (λ h. told_of h (2 ^ 64 / 2 ^ 64 % 2) k c j) (high_number n l)

no_overs : (a b k c j : ℕ) → a < 2 ^ 64 → b < 2 ^ 64 → told_of (a / 2 ^ 64 % 2) (b / 2 ^ 64 % 2) k c j ≡ told_of 0 0 k c j
no_overs a b k c j la lb = let x = high_number a la in let y = high_number b lb in λ i. told_of (x i) (y i) k c j

-- a sum, by the carry
sum_told : (c j n : ℕ) → c < 2 → j < 2 ^ 64 → c * 2 ^ 64 + j ≡ n → told_of 0 0 0 c j ≡ value_number (within n)
sum_told zero j n lc lj e = go (nat_lt n (2 ^ 64)) refl
  where
    go : (t : Bool) → nat_lt n (2 ^ 64) ≡ t → fit 65 (0 + j) ≡ value_number (cond t (Number n) Overflow)
    go true h = omega arith
    go false h = let g = ltb-false n (2 ^ 64) h in absurd (omega arith)
sum_told (suc zero) j n lc lj e = go (nat_lt n (2 ^ 64)) refl
  where
    go : (t : Bool) → nat_lt n (2 ^ 64) ≡ t → 2 ^ 64 ≡ value_number (cond t (Number n) Overflow)
    go true h = let g = ltb-true n (2 ^ 64) h in absurd (omega arith)
    go false h = refl
sum_told (suc (suc c)) j n lc lj e = absurd (omega arith)

less_told : (c j a b : ℕ) → c < 2 → j < 2 ^ 64 → a < 2 ^ 64 → b < 2 ^ 64 → c * 2 ^ 64 + j ≡ a + (2 ^ 64 - 1 - b) + 1 →
    told_of 0 0 1 c j ≡ a - b
less_told zero j a b lc lj la lb e = omega arith
less_told (suc zero) j a b lc lj la lb e = let h : fit 65 (0 + j) ≡ a - b = omega arith in h
less_told (suc (suc c)) j a b lc lj la lb e = absurd (omega arith)

pub joined_low : (x y z u : ℕ) → fit 16 x * 2 ^ 48 + (fit 16 y * 2 ^ 32 + (fit 16 z * 2 ^ 16 + fit 16 u)) < 2 ^ 64
joined_low x y z u = omega arith

-- the quarters of a sum are the sum
pub whole_sum : (x y : Val) → Small x → Small y → whole 0 (value_number x) (value_number y) ≡ value_number (val_op Plus x y)
whole_sum Overflow y s t = refl
whole_sum (Number a) Overflow s t =
    over_second a 0 (carry a (added 0 (2 ^ 64)) 0 s (omega arith) (omega arith))
    (joined a (added 0 (2 ^ 64)) 0 s (omega arith) (omega arith)) s
whole_sum (Number a) (Number b) s t =
    let e : added 0 b ≡ b = omega arith in
    let l : added 0 b < 2 ^ 64 = omega arith in
    let d : ℕ = added 0 b in
    let z : 0 < 2 = omega arith in
    no_overs a b 0 (carry a d 0 s l z) (joined a d 0 s l z) s t
    ∙ sum_told (carry a d 0 s l z) (joined a d 0 s l z) (a + b) (bit_low (r3 a d 0 s l z / 2 ^ 16))
    (joined_low (r3 a d 0 s l z / 2 ^ 0) (r2 a d 0 s l z / 2 ^ 0) (r1 a d 0 s l z / 2 ^ 0) (q0 a d 0 s l z / 2 ^ 0))
    (all_joined a d 0 s l z ∙ plain a d b e)
  where
    plain : (a d b : ℕ) → d ≡ b → a + d + 0 ≡ a + b
    plain a d b e = omega arith

-- and those of a difference the difference
pub whole_less : (x y : Val) → Small x → Small y → whole 1 (value_number x) (value_number y) ≡ value_number (val_op Minus x y)
whole_less Overflow y s t = refl
whole_less (Number a) Overflow s t =
    over_second a 1 (carry a (added 1 (2 ^ 64)) 1 s (omega arith) (omega arith))
    (joined a (added 1 (2 ^ 64)) 1 s (omega arith) (omega arith)) s
whole_less (Number a) (Number b) s t =
    let e : added 1 b ≡ 2 ^ 64 - 1 - b = omega arith in
    let l : added 1 b < 2 ^ 64 = omega arith in
    let d : ℕ = added 1 b in
    let z : 1 < 2 = omega arith in
    no_overs a b 1 (carry a d 1 s l z) (joined a d 1 s l z) s t
    ∙ less_told (carry a d 1 s l z) (joined a d 1 s l z) a b (bit_low (r3 a d 1 s l z / 2 ^ 16))
    (joined_low (r3 a d 1 s l z / 2 ^ 0) (r2 a d 1 s l z / 2 ^ 0) (r1 a d 1 s l z / 2 ^ 0) (q0 a d 1 s l z / 2 ^ 0)) s t
    (all_joined a d 1 s l z ∙ ap (λ n. a + n + 1) e)
