-- The laws of the unit: what it works at behind an edge, and what its wires tell.
use Rattle.std.proofs.Common.{◌≡◌, ◌<◌, inl, inr, ℕ, zero, suc, ◌+◌, ◌*◌, ◌/◌, ◌%◌, ◌^◌, Bool, true, false, not, ◌||◌, ◌&&◌, refl, ap}
use Rattle.std.proofs.Common.{sym, ◌∙◌, subst, arith, nat_eq}
use Rattle.std.proofs.lemmas.Bool.{and_right, ne_eqb}
use Rattle.pcf_values.specs.declared.val.Val.{Val}
use Rattle.pcf_values.specs.declared.operator.Operator.{Operator}
use Rattle.pcf_values.specs.declared.operator.Operator.TheVariants.{Plus, Minus, Times}
use Rattle.pcf_values.specs.Values.{val_op}
use Rattle.verilog_tree.specs.Tree.{Expr}
use Rattle.verilog_tree.specs.Meaning.{Store, Scope, flag, fit, nonzero, chosen}
use Rattle.verilog_tree.specs.Laws.{Rests}
use Rattle.verilog_tree.specs.WellFormed.{member}
use Rattle.circuit_module.specs.Stands.{value_number, Small}
use Rattle.circuit_module.proofs.Values.{fit_flag}
use Rattle.late_numbers.specs.Product.{Product, begun, bit_done, bits_done, Narrow, IsProduct}
use Rattle.late_numbers.proofs.OneBit.{narrow_all}
use Rattle.joined_module.specs.Unit.{unit_wires, operand_wires_of}
use Rattle.late_unit.specs.Works.{UnitRests, UnitSame, After, unit_items, unit_names, added, quarter, Quarters, SumWaits, ProductWaits}
use Rattle.late_unit.specs.Works.{Phase, Free, Works}
use Rattle.late_unit.specs.Works.{edges_of, is_minus, is_times, spoils, low_of, bits_of, sum_of, NotYet}
use Rattle.late_unit.specs.Laws.{LateSame, LateReset, LateFree, LateRests, LateStarts, LateGoes, LateBusy, LateTakes, LateTells}
use Rattle.late_unit.proofs.Over.{over, over_is}
use Rattle.late_unit.proofs.Numbers.{spoilt_is, product_value, bit_after, bits_halve}
use Rattle.late_unit.proofs.Wires.{Told, wires_told, times_told, plain_busy, sum_told}
use Rattle.late_unit.proofs.Edges.{Q, F, quarters_taken, less_taken, plain_spoilt, plain_meets, times_meets, times_begun, times_spoilt}
use Rattle.late_unit.proofs.Edges.{product_taken, spoilt_stays, turned, added_up, product_quarters}

-- ---- its registers tell it

quarters_same : (b : Bool) (S T : Store) → UnitSame b S T → (a d c : ℕ) → Quarters a d c S → Quarters a d c T
quarters_same b S T h a d c q = record {
  part0 = h "part0" refl ∙ q.part0;
  part1 = h "part1" refl ∙ q.part1;
  next1 = h "next1" refl ∙ q.next1;
  part2 = h "part2" refl ∙ q.part2;
  next2 = h "next2" refl ∙ q.next2;
  part3 = h "part3" refl ∙ q.part3;
  next3 = h "next3" refl ∙ q.next3;
}

-- a sum that waits waits in any store where the unit is the same
sum_same : (b : Bool) (S T : Store) → UnitSame b S T → (v : Val) → SumWaits b v S → SumWaits b v T
sum_same b S T h v w = record {
  left = w.left;
  right = w.right;
  less = w.less;
  left_small = w.left_small;
  right_small = w.right_small;
  is = w.is;
  meets = h "meets" refl ∙ w.meets;
  idle = λ e. h "begun" (has_begun b e) ∙ w.idle e;
  was_less = h "was_less" refl ∙ w.was_less;
  spoilt = h "spoilt" refl ∙ w.spoilt;
  quarters = quarters_same b S T h _ _ _ w.quarters;
}
  where
    has_begun : (b : Bool) → b ≡ true → member "begun" (unit_names b) ≡ true
    has_begun true e = refl
    has_begun false e = absurd cc

module _ (S T : Store) (h : UnitSame true S T) where
  product_same : (s : Product) → IsProduct S s → IsProduct T s
  product_same s p = record {
    rest = h "rest" refl ∙ p.rest;
    factor = h "factor" refl ∙ p.factor;
    total = h "total" refl ∙ p.total;
    lost = h "lost" refl ∙ p.lost;
    beyond = h "beyond" refl ∙ p.beyond;
  }

  phase_same : (n : ℕ) (s : Product) → Phase n s S → Phase n s T
  phase_same n s (inl p) = inl (h "adds" refl ∙ p.0, p.1)
  phase_same n s (inr p) = inr (h "adds" refl ∙ p.0, (p.1.0, quarters_same true S T h _ _ _ p.1.1))

  times_same : (n : ℕ) (v : Val) → ProductWaits n v S → ProductWaits n v T
  times_same n v w = record {
    left = w.left;
    right = w.right;
    left_small = w.left_small;
    right_small = w.right_small;
    is = w.is;
    meets = h "meets" refl ∙ w.meets;
    goes = h "begun" refl ∙ w.goes;
    spoilt = h "spoilt" refl ∙ w.spoilt;
    bits = w.bits;
    product = product_same (bits_done w.bits (begun (low_of w.left) (low_of w.right))) w.product;
    phase = phase_same n (bits_done w.bits (begun (low_of w.left) (low_of w.right))) w.phase;
  }

free_same : (b : Bool) (S T : Store) → UnitSame b S T → Free b S → Free b T
free_same false S T h e = h "meets" refl ∙ e
free_same true S T h e = (h "meets" refl ∙ e.0, h "begun" refl ∙ e.1)

pub late_same : LateSame
late_same b zero v S T h w = free_same b S T h w
late_same b (suc n) v S T h (inl w) = inl (w.0, sum_same b S T h v w.1)
late_same true (suc n) v S T h (inr w) = inr (w.0, times_same S T h n v w.1)
late_same false (suc n) v S T h (inr w) = absurd (let e = w.0 in cc)

-- ---- small facts

some_rest : (n : ℕ) → (n ≡ 0 → ⊥) → nonzero n ≡ true
some_rest n h = ap not (ne_eqb n 0 h)

no_bits : (n : ℕ) (s : ℕ) → suc n ≡ 2 * bits_of s → s ≡ 0 → ⊥
no_bits n s e z = let h : 2 * bits_of s ≡ 0 = ap (λ s. 2 * bits_of s) z in none (2 * bits_of s) e h
  where
    none : (m : ℕ) → suc n ≡ m → m ≡ 0 → ⊥
    none m e h = omega arith

low_small : (v : Val) → low_of v < 2 ^ 64
low_small v = small (value_number v)
  where
    small : (n : ℕ) → n % 2 ^ 64 < 2 ^ 64
    small n = omega arith

narrow_of : (k : ℕ) (x y : Val) → Narrow (bits_done k (begun (low_of x) (low_of y)))
narrow_of k x y =
    narrow_all k (begun (low_of x) (low_of y)) (record { rest = low_small y; factor = low_small x; total = omega arith })

-- ---- an edge

module _ (P : Scope) (R : Store) where
  -- what the wires tell

  free_told : (b : Bool) → Rests (Q P R b) (unit_wires b) R → Free b R → (R.vec "busy" ≡ 0) × NotYet b R
  free_told false r e = (plain_busy P R r ∙ ap (fit 1) e, (e, tt))
  free_told true r e =
      let t = times_told P R r in
      let m = e.0 in
      let g = e.1 in (
        t.busy ∙ (λ i. fit 1 (flag (nonzero (m i) || nonzero (g i)))),
        (
          m,
          t.last ∙ (λ i. fit 1 (flag (nonzero (g i) && nonzero
              (flag (nonzero (flag (nat_eq (R.vec "adds") 0)) && nonzero (flag (nat_eq (flag (nonzero (R.vec "rest"))) 0))))))),
        ),
      )

  sum_busy : (b : Bool) → Rests (Q P R b) (unit_wires b) R → R.vec "meets" ≡ 1 → R.vec "busy" ≡ 1
  sum_busy false r e = plain_busy P R r ∙ ap (fit 1) e
  sum_busy true r e = let t = times_told P R r in t.busy ∙ (λ i. fit 1 (flag (nonzero (e i) || nonzero (R.vec "begun"))))

  module _ (r : Rests (Q P R true) (unit_wires true) R) (n : ℕ) (v : Val) (w : ProductWaits n v R) where
    abbrev s : Product
    s = bits_done w.bits (begun (low_of w.left) (low_of w.right))

    times_busy : R.vec "busy" ≡ 1
    times_busy =
        let t = times_told P R r in
        let m = w.meets in
        let g = w.goes in
        t.busy ∙ (λ i. fit 1 (flag (nonzero (m i) || nonzero (g i))))

    last_as : (a e : ℕ) → R.vec "adds" ≡ a → R.vec "rest" ≡ e → R.vec "last" ≡
        fit 1 (flag (nonzero (flag (nonzero (flag (nat_eq a 0)) && nonzero (flag (nat_eq (flag (nonzero e)) 0))))))
    last_as a e ha he =
        let t = times_told P R r in
        let g = w.goes in
        t.last ∙ (λ i. fit 1 (flag (nonzero (g i) && nonzero
        (flag (nonzero (flag (nat_eq (ha i) 0)) && nonzero (flag (nat_eq (flag (nonzero (he i))) 0)))))))

    -- some bit is left, or the second edge of a bit is next
    last_some : R.vec "adds" ≡ 0 → (s.rest ≡ 0 → ⊥) → R.vec "last" ≡ 0
    last_some a some =
        last_as 0 s.rest a w.product.rest
        ∙ ap (λ b. fit 1 (flag (nonzero (flag (nonzero (flag (nat_eq 0 0)) && nonzero (flag (nat_eq (flag b) 0)))))))
        (some_rest s.rest some)

    last_second : R.vec "adds" ≡ 1 → R.vec "last" ≡ 0
    last_second a = last_as 1 (R.vec "rest") a refl

    last_none : R.vec "adds" ≡ 0 → s.rest ≡ 0 → R.vec "last" ≡ 1
    last_none a z = last_as 0 0 a (w.product.rest ∙ z)

    product_told : s.rest ≡ 0 → R.vec "product" ≡ value_number v
    product_told z =
        let t = times_told P R r in
        let a = w.spoilt in
        let b = w.product.beyond in
        let c = w.product.total in
        t.product
        ∙ (λ i. fit 65 (chosen (nonzero (flag (nonzero (a i) || nonzero (b i)))) (2 ^ 64) (0 + c i)))
        ∙ product_value w.left w.right w.left_small w.right_small w.bits z (narrow_of w.bits w.left w.right).total
        ∙ sym (ap value_number w.is)

  not_last : Rests (Q P R true) (unit_wires true) R → (n : ℕ) (v : Val) → ProductWaits (suc n) v R → R.vec "last" ≡ 0
  not_last r n v w = go w.phase
    where
      go : Phase (suc n) (bits_done w.bits (begun (low_of w.left) (low_of w.right))) R → R.vec "last" ≡ 0
      go (inl p) = last_some r (suc n) v w p.0 (no_bits n _ p.1)
      go (inr p) = last_second r (suc n) v w p.0

  -- no bit is left where no edge is
  ends : (v : Val) (w : ProductWaits 0 v R) →
      (R.vec "adds" ≡ 0) × ((bits_done w.bits (begun (low_of w.left) (low_of w.right))).rest ≡ 0)
  ends v w = go w.phase
    where
      no_rest : (n : ℕ) → 0 ≡ 2 * bits_of n → n ≡ 0
      no_rest zero e = refl
      no_rest (suc n) e =
          let x = bits_halve (suc n) (λ z. omega arith) in absurd (some (bits_of (suc n)) (bits_of (suc n / 2)) e x)
        where
          some : (b c : ℕ) → 0 ≡ 2 * b → b ≡ suc c → ⊥
          some b c e h = omega arith

      odd : (b : ℕ) → 1 ≡ 2 * b → ⊥
      odd b e = omega arith

      go : Phase 0 (bits_done w.bits (begun (low_of w.left) (low_of w.right))) R →
          (R.vec "adds" ≡ 0) × ((bits_done w.bits (begun (low_of w.left) (low_of w.right))).rest ≡ 0)
      go (inl p) =
          let m = (bits_done w.bits (begun (low_of w.left) (low_of w.right))).rest in (p.0, no_rest m p.1)
      go (inr p) = absurd (odd (bits_of (bits_done w.bits (begun (low_of w.left) (low_of w.right))).rest) p.1.0)

  module _ (T : Store) where
    -- the start
    resets : (b : Bool) → After (Q P R b) b R T → R.vec "rst" ≡ 1 → Free b T
    resets false a e =
        a "meets" refl ∙ plain_meets P R
        ∙ (λ i. fit 1 (flag (nonzero (R.vec "starts") && nonzero (flag (nat_eq (e i) 0)))))
        ∙ ap (λ b. fit 1 (flag b)) (and_right (nonzero (R.vec "starts")) false refl)
    resets true a e = (
      a "meets" refl ∙ times_meets P R
          ∙ (λ i. fit 1 (flag (nonzero (R.vec "starts") && nonzero
          (flag (nonzero (flag (nat_eq (R.vec "multiplies") 0)) && nonzero (flag (nat_eq (e i) 0)))))))
          ∙ ap (λ b. fit 1 (flag (nonzero (R.vec "starts") && nonzero (flag b))))
          (and_right (nonzero (flag (nat_eq (R.vec "multiplies") 0))) false refl)
          ∙ ap (λ b. fit 1 (flag b)) (and_right (nonzero (R.vec "starts")) false refl),
      a "begun" refl ∙ times_begun P R
          ∙ (λ i. fit 1 (flag (nonzero (flag (nat_eq (e i) 0)) && nonzero
          (flag (nonzero (flag (nonzero (R.vec "starts") && nonzero (R.vec "multiplies"))) || nonzero
          (flag (nonzero (R.vec "begun") && nonzero (flag (nat_eq (R.vec "last") 0))))))))),
    )

    module _ (go : R.vec "rst" ≡ 0) where
      -- nothing begins
      module _ (still : R.vec "starts" ≡ 0) where
        no_meets : (b : Bool) → After (Q P R b) b R T → T.vec "meets" ≡ 0
        no_meets false a =
            a "meets" refl ∙ plain_meets P R
            ∙ (λ i. fit 1 (flag (nonzero (still i) && nonzero (flag (nat_eq (R.vec "rst") 0)))))
        no_meets true a =
            a "meets" refl ∙ times_meets P R
            ∙ (λ i. fit 1 (flag (nonzero (still i) && nonzero
            (flag (nonzero (flag (nat_eq (R.vec "multiplies") 0)) && nonzero (flag (nat_eq (R.vec "rst") 0)))))))

        begun_by : After (Q P R true) true R T → (g l : ℕ) → R.vec "begun" ≡ g → R.vec "last" ≡ l → T.vec "begun" ≡
            fit 1 (flag (nonzero (flag (nonzero g && nonzero (flag (nat_eq l 0))))))
        begun_by a g l hg hl =
            a "begun" refl ∙ times_begun P R
            ∙ (λ i. fit 1 (flag (nonzero (flag (nat_eq (go i) 0)) && nonzero
            (flag (nonzero (flag (nonzero (still i) && nonzero (R.vec "multiplies"))) || nonzero
            (flag (nonzero (hg i) && nonzero (flag (nat_eq (hl i) 0)))))))))
            ∙ again (nonzero (flag (nonzero g && nonzero (flag (nat_eq l 0)))))
          where
            again : (b : Bool) → fit 1 (flag (nonzero (flag b))) ≡ fit 1 (flag b)
            again true = refl
            again false = refl

        stays_free : (b : Bool) → After (Q P R b) b R T → (b ≡ true → R.vec "begun" ≡ 0) → Free b T
        stays_free false a e = no_meets false a
        stays_free true a e = (no_meets true a, begun_by a 0 (R.vec "last") (e refl) refl)

        idle_of : (b : Bool) → Free b R → b ≡ true → R.vec "begun" ≡ 0
        idle_of false e h = absurd cc
        idle_of true e h = e.1

        -- a product goes on
        module _ (a : After (Q P R true) true R T) (r : Rests (Q P R true) (unit_wires true) R) (e f : Expr)
            (o : Rests (Q P R true) (operand_wires_of true e f) R) (n : ℕ) (v : Val) (w : ProductWaits (suc n) v R) where
          abbrev first_product : Product
          first_product = begun (low_of w.left) (low_of w.right)

          abbrev u : Product
          u = bits_done w.bits first_product

          narrow : Narrow u
          narrow = narrow_of w.bits w.left w.right

          told : Told R
          told = wires_told P R true r

          waits : (k : ℕ) → IsProduct T (bits_done k first_product) → Phase n (bits_done k first_product) T → ProductWaits n v T
          waits k p h = record {
            left = w.left;
            right = w.right;
            left_small = w.left_small;
            right_small = w.right_small;
            is = w.is;
            meets = no_meets true a;
            goes = begun_by a 1 0 w.goes (not_last r n v w);
            spoilt = a "spoilt" refl ∙ spoilt_stays P R w.goes ∙ w.spoilt;
            bits = k;
            product = p;
            phase = h;
          }

          half : (m : ℕ) → suc (suc n) ≡ 2 * bits_of m → n ≡ 2 * bits_of (m / 2)
          half m h =
              let x = bits_halve m (no_bits (suc n) m h) in less (bits_of m) (bits_of (m / 2)) h x
            where
              less : (b c : ℕ) → suc (suc n) ≡ 2 * b → b ≡ suc c → n ≡ 2 * c
              less b c h x = omega arith

          times_on : ProductWaits n v T
          times_on = by w.phase
            where
              by : Phase (suc n) u R → ProductWaits n v T
              by (inl p) =
                  let x = turned P R w.goes u w.product p.0 in
                  waits w.bits (product_same (F P R true) T a u x.0)
                  (inr (
                    a "adds" refl ∙ x.1,
                    (p.1, quarters_same true (F P R true) T a _ _ _ (product_quarters P R w.goes u w.product e f o narrow told)),
                  ))
              by (inr p) =
                  let x = added_up P R w.goes u w.product narrow told p.1.1 p.0 in
                  waits (suc w.bits)
                  (subst (IsProduct T) (bit_after w.bits first_product) (product_same (F P R true) T a (bit_done u) x.0))
                  (inl (a "adds" refl ∙ x.1, half u.rest p.1.0 ∙ ap (λ (s : Product). 2 * bits_of s.rest) (bit_after w.bits first_product)))

      -- a number begins
      module _ (starts : R.vec "starts" ≡ 1) (x y : Val) (sx : Small x) (sy : Small y) (hx : R.vec "first" ≡ value_number x)
          (hy : R.vec "second" ≡ value_number y) where
        operands_spoil : fit 1 (flag (nonzero (R.vec "first" / 2 ^ 64 % 2) || nonzero (R.vec "second" / 2 ^ 64 % 2))) ≡ flag (spoils x y)
        operands_spoil =
            (λ i. fit 1 (flag (nonzero (hx i / 2 ^ 64 % 2) || nonzero (hy i / 2 ^ 64 % 2)))) ∙ spoilt_is x y sx sy

        spoilt_now : (b : Bool) → After (Q P R b) b R T → Free b R → T.vec "spoilt" ≡ flag (spoils x y)
        spoilt_now false a e = a "spoilt" refl ∙ plain_spoilt P R ∙ operands_spoil
        spoilt_now true a e = a "spoilt" refl ∙ times_spoilt P R e.1 ∙ operands_spoil

        sum_meets : (b : Bool) → After (Q P R b) b R T → (b ≡ true → R.vec "multiplies" ≡ 0) → T.vec "meets" ≡ 1
        sum_meets false a m =
            a "meets" refl ∙ plain_meets P R ∙ (λ i. fit 1 (flag (nonzero (starts i) && nonzero (flag (nat_eq (go i) 0)))))
        sum_meets true a m =
            let z = m refl in
            a "meets" refl ∙ times_meets P R
            ∙ (λ i. fit 1 (flag (nonzero (starts i) && nonzero
            (flag (nonzero (flag (nat_eq (z i) 0)) && nonzero (flag (nat_eq (go i) 0)))))))

        sum_idle : (b : Bool) → After (Q P R b) b R T → Free b R → (b ≡ true → R.vec "multiplies" ≡ 0) → b ≡ true → T.vec "begun" ≡ 0
        sum_idle false a e m h = absurd cc
        sum_idle true a e m h =
            let z = m refl in
            let g = e.1 in
            a "begun" refl ∙ times_begun P R
            ∙ (λ i. fit 1 (flag (nonzero (flag (nat_eq (go i) 0)) && nonzero
            (flag (nonzero (flag (nonzero (starts i) && nonzero (z i))) || nonzero
            (flag (nonzero (g i) && nonzero (flag (nat_eq (R.vec "last") 0)))))))))

        sum_begins : (b l : Bool) → After (Q P R b) b R T → Told R → Free b R → (b ≡ true → R.vec "multiplies" ≡ 0) →
            R.vec "less" ≡ flag l → SumWaits b (sum_of l x y) T
        sum_begins b l a t e m k = record {
          left = x;
          right = y;
          less = l;
          left_small = sx;
          right_small = sy;
          is = refl;
          meets = sum_meets b a m;
          idle = sum_idle b a e m;
          was_less = a "was_less" refl ∙ less_taken P R b ∙ ap (fit 1) k ∙ fit_flag l;
          spoilt = spoilt_now b a e;
          quarters = record {
            part0 = a "part0" refl ∙ q.part0 ∙ (λ i. quarter 0 (hx i) (added (k i) (hy i)) (k i));
            part1 = a "part1" refl ∙ q.part1 ∙ (λ i. quarter 16 (hx i) (added (k i) (hy i)) 0);
            next1 = a "next1" refl ∙ q.next1 ∙ (λ i. quarter 16 (hx i) (added (k i) (hy i)) 1);
            part2 = a "part2" refl ∙ q.part2 ∙ (λ i. quarter 32 (hx i) (added (k i) (hy i)) 0);
            next2 = a "next2" refl ∙ q.next2 ∙ (λ i. quarter 32 (hx i) (added (k i) (hy i)) 1);
            part3 = a "part3" refl ∙ q.part3 ∙ (λ i. quarter 48 (hx i) (added (k i) (hy i)) 0);
            next3 = a "next3" refl ∙ q.next3 ∙ (λ i. quarter 48 (hx i) (added (k i) (hy i)) 1);
          };
        }
          where
            q : Quarters (R.vec "first") (added (R.vec "less") (R.vec "second")) (R.vec "less") (F P R b)
            q = quarters_taken P R t b

        times_begins : After (Q P R true) true R T → Free true R → R.vec "multiplies" ≡ 1 →
            ProductWaits (2 * bits_of (low_of y)) (val_op Times x y) T
        times_begins a e m = record {
          left = x;
          right = y;
          left_small = sx;
          right_small = sy;
          is = refl;
          meets = a "meets" refl ∙ times_meets P R
              ∙ (λ i. fit 1 (flag (nonzero (starts i) && nonzero
              (flag (nonzero (flag (nat_eq (m i) 0)) && nonzero (flag (nat_eq (go i) 0)))))));
          goes = a "begun" refl ∙ times_begun P R
              ∙ (λ i. fit 1 (flag (nonzero (flag (nat_eq (go i) 0)) && nonzero
              (flag (nonzero (flag (nonzero (starts i) && nonzero (m i))) || nonzero
              (flag (nonzero (R.vec "begun") && nonzero (flag (nat_eq (R.vec "last") 0)))))))));
          spoilt = spoilt_now true a e;
          bits = 0;
          product = record {
            rest = a "rest" refl ∙ p.0.rest ∙ ap (λ n. n % 2 ^ 64) hy;
            factor = a "factor" refl ∙ p.0.factor ∙ ap (λ n. n % 2 ^ 64) hx;
            total = a "total" refl ∙ p.0.total;
            lost = a "lost" refl ∙ p.0.lost;
            beyond = a "beyond" refl ∙ p.0.beyond;
          };
          phase = inl (a "adds" refl ∙ p.1, refl);
        }
          where
            p : IsProduct (F P R true) (begun (R.vec "first" % 2 ^ 64) (R.vec "second" % 2 ^ 64)) × ((F P R true).vec "adds" ≡ 0)
            p = product_taken P R e.1

        begins : (b : Bool) (o : Operator) → After (Q P R b) b R T → Told R → Free b R → R.vec "less" ≡ flag (is_minus o) →
            (b ≡ true → R.vec "multiplies" ≡ flag (is_times o)) → (is_times o ≡ true → b ≡ true) → Works b (edges_of o y) (val_op o x y) T
        begins b Plus a t e k m h = inl (refl, sum_begins b false a t e m k)
        begins b Minus a t e k m h = inl (refl, sum_begins b true a t e m k)
        begins true Times a t e k m h = inr (refl, times_begins a e (m refl))
        begins false Times a t e k m h = absurd (no_is (h refl))
          where
            no_is : false ≡ true → ⊥
            no_is e = cc

-- ---- the laws

module _ (P : Scope) (b : Bool) (R : Store) (u : UnitRests P b R) where
  same : over (unit_items b) P ≡ P
  same = over_is P (unit_items b) u.declared

  rests : Rests (over (unit_items b) P) (unit_wires b) R
  rests = subst (λ X. Rests X (unit_wires b) R) (sym same) u.rests

  operands : Rests (over (unit_items b) P) (operand_wires_of b u.first u.second) R
  operands = subst (λ X. Rests X (operand_wires_of b u.first u.second) R) (sym same) u.operands

  after : (T : Store) → After P b R T → After (over (unit_items b) P) b R T
  after T a = subst (λ X. After X b R T) (sym same) a

pub late_reset : LateReset
late_reset P b v R T u a e = resets P R T b (after P b R u T a) e

pub late_free : LateFree
late_free P b v R u w = free_told P R b (rests P b R u) w

pub late_rests : LateRests
late_rests P b v w R T u a go still f = stays_free P R T go still b (after P b R u T a) (idle_of P R T go still b f)

pub late_starts : LateStarts
late_starts P b o x y w R T u a go starts f sx sy hx hy k m h =
    begins P R T go starts x y sx sy hx hy b o (after P b R u T a) (wires_told P R b (rests P b R u)) f k m h

pub late_goes : LateGoes
late_goes P b n v R T u a go still (inl w) = absurd (let h = w.0 in omega arith)
late_goes P false n v R T u a go still (inr w) = absurd (let h = w.0 in cc)
late_goes P true n v R T u a go still (inr w) =
    inr (refl, times_on P R T go still (after P true R u T a) (rests P true R u) u.first u.second (operands P true R u) n v w.1)

pub late_busy : LateBusy
late_busy P b n v R u (inl w) = absurd (let h = w.0 in omega arith)
late_busy P false n v R u (inr w) = absurd (let h = w.0 in cc)
late_busy P true n v R u (inr w) =
    let r = rests P true R u in (times_busy P R r (suc n) v w.1, (w.1.meets, not_last P R r n v w.1))

pub late_takes : LateTakes
late_takes P b v w R T u a go still (inl x) = stays_free P R T go still b (after P b R u T a) x.1.idle
late_takes P false v w R T u a go still (inr x) = absurd (let h = x.0 in cc)
late_takes P true v w R T u a go still (inr x) =
    let r = rests P true R u in
    let k = after P true R u T a in
    let e = ends P R v x.1 in
    (no_meets P R T go still true k, begun_by P R T go still k 1 1 x.1.goes (last_none P R r 0 v x.1 e.0 e.1))

pub late_tells : LateTells
late_tells P b v R u (inl w) =
    let r = rests P b R u in
    (sum_busy P R b r w.1.meets, inl (w.1.meets, sum_told R (wires_told P R b r) b v w.1))
late_tells P false v R u (inr w) = absurd (let h = w.0 in cc)
late_tells P true v R u (inr w) =
    let r = rests P true R u in
    let e = ends P R v w.1 in
    (times_busy P R r 0 v w.1, inr (w.1.meets, (last_none P R r 0 v w.1 e.0 e.1, product_told P R r 0 v w.1 e.1)))
