-- A cycle of a product, told by what has settled before it.
use Rattle.std.proofs.Common.{◌≡◌, ℕ, zero, suc, ◌+◌, ◌*◌, ◌/◌, ◌%◌, ◌^◌, ◌<◌, max, Bool, true, false, cond, ◌||◌, ◌&&◌, refl, ap, add-zero}
use Rattle.std.proofs.Common.{sym, ◌∙◌, arith, nat_eq, nat_le, nat_lt}
use Rattle.std.proofs.lemmas.Bool.{leb-true, leb-false, eq-eqb, ne_eqb}
use Prim.Native.String.{String}
use Rattle.verilog_tree.specs.Tree.{name, none, bit, num}
use Rattle.verilog_tree.specs.Meaning.{Scope, Store, flag, fit, nonzero, chosen, holds, fire}
use Rattle.circuit_module.specs.Fixed.{set}
use Rattle.circuit_module.proofs.Values.{fit_flag}
use Rattle.late_numbers.specs.Product.{Product, odd, bit_done, bits_done, Narrow, IsProduct}
use Rattle.late_numbers.specs.ProductUnit.{sum_taken, bits_shift, product_goes}
use Rattle.late_numbers.proofs.Quarters.{quarter, right, joined, carry, all_joined, joined_low, bit_low}

-- ---- numbers

odd_is : (n : ℕ) → nonzero (n / 2 ^ 0 % 2) ≡ nat_eq (n % 2) 1
odd_is n = go (n / 2 ^ 0 % 2) refl (omega arith)
  where
    go : (m : ℕ) → n / 2 ^ 0 % 2 ≡ m → m < 2 → nonzero m ≡ nat_eq (n % 2) 1
    go zero e l = sym (ne_eqb (n % 2) 1 (λ h. omega arith))
    go (suc zero) e l = sym (eq-eqb (n % 2) 1 (omega arith))
    go (suc (suc m)) e l = absurd (omega arith)

-- the carry out of a sum of 64 bits, and what is left of it
carry_is : (c j n : ℕ) → c < 2 → j < 2 ^ 64 → c * 2 ^ 64 + j ≡ n → nonzero c ≡ nat_le (2 ^ 64) n
carry_is zero j n l k e = go (nat_le (2 ^ 64) n) refl
  where
    go : (b : Bool) → nat_le (2 ^ 64) n ≡ b → false ≡ b
    go true h = let x = leb-true (2 ^ 64) n h in absurd (omega arith)
    go false h = refl
carry_is (suc zero) j n l k e = go (nat_le (2 ^ 64) n) refl
  where
    go : (b : Bool) → nat_le (2 ^ 64) n ≡ b → true ≡ b
    go true h = refl
    go false h = let x = leb-false (2 ^ 64) n h in absurd (omega arith)
carry_is (suc (suc c)) j n l k e = absurd (omega arith)

left_is : (c j n : ℕ) → j < 2 ^ 64 → c * 2 ^ 64 + j ≡ n → fit 64 (fit 64 j) ≡ n % 2 ^ 64
left_is c j n l e = omega arith

-- the highest of 64 bits
high_is : (n : ℕ) → n < 2 ^ 64 → nonzero (n / 2 ^ 63 % 2) ≡ nat_le (2 ^ 63) n
high_is n l = carry_high (n / 2 ^ 63 % 2) refl (nat_le (2 ^ 63) n) refl
  where
    carry_high : (c : ℕ) → n / 2 ^ 63 % 2 ≡ c → (b : Bool) → nat_le (2 ^ 63) n ≡ b → nonzero c ≡ b
    carry_high zero e true h = let x = leb-true (2 ^ 63) n h in absurd (omega arith)
    carry_high zero e false h = refl
    carry_high (suc zero) e true h = refl
    carry_high (suc zero) e false h = let x = leb-false (2 ^ 63) n h in absurd (omega arith)
    carry_high (suc (suc c)) e b h = absurd (omega arith)

flag_back : (b : Bool) → nonzero (flag b) ≡ b
flag_back true = refl
flag_back false = refl

-- numbers stay in 64 bits
pub narrow_on : (s : Product) → Narrow s → Narrow (bit_done s)
narrow_on s n = record {
  rest = let l = n.rest in omega arith;
  factor = omega arith;
  total = small (odd s);
}
  where
    small : (o : Bool) → cond o ((s.total + s.factor) % 2 ^ 64) s.total < 2 ^ 64
    small true = omega arith
    small false = n.total

pub narrow_all : (k : ℕ) (s : Product) → Narrow s → Narrow (bits_done k s)
narrow_all zero s n = n
narrow_all (suc k) s n = narrow_all k (bit_done s) (narrow_on s n)

-- ---- what is declared, and what has settled

-- the widths of all that a product reads and writes
pub record Widths (P : Scope) : Type 0 where
  pub rest : P.width "rest" ≡ 64
  pub factor : P.width "factor" ≡ 64
  pub total : P.width "total" ≡ 64
  pub lost : P.width "lost" ≡ 1
  pub beyond : P.width "beyond" ≡ 1
  pub adds : P.width "adds" ≡ 1
  pub right3 : P.width "right3" ≡ 17

-- the highest quarter of what the registers hold, and the number that all of them are
abbrev pub right1_in : Store → ℕ
right1_in R = right (R.vec "part0") (R.vec "part1") (R.vec "next1")

abbrev pub right2_in : Store → ℕ
right2_in R = right (right1_in R) (R.vec "part2") (R.vec "next2")

abbrev pub right3_in : Store → ℕ
right3_in R = right (right2_in R) (R.vec "part3") (R.vec "next3")

abbrev pub number_of : (p0 r1 r2 r3 : ℕ) → ℕ
number_of p0 r1 r2 r3 =
    fit 64 (fit 16 (r3 / 2 ^ 0) * 2 ^ 48 + (fit 16 (r2 / 2 ^ 0) * 2 ^ 32 + (fit 16 (r1 / 2 ^ 0) * 2 ^ 16 + fit 16 (p0 / 2 ^ 0))))

-- the wires have them
pub record SumMet (R : Store) : Type 0 where
  pub right3 : R.vec "right3" ≡ right3_in R
  pub met : R.vec "met" ≡ number_of (R.vec "part0") (right1_in R) (right2_in R) (right3_in R)

-- the registers hold the quarters of the sum so far and of the left operand
pub record Quartered (R : Store) (t f : ℕ) : Type 0 where
  pub part0 : R.vec "part0" ≡ quarter 0 t f 0
  pub part1 : R.vec "part1" ≡ quarter 16 t f 0
  pub next1 : R.vec "next1" ≡ quarter 16 t f 1
  pub part2 : R.vec "part2" ≡ quarter 32 t f 0
  pub next2 : R.vec "next2" ≡ quarter 32 t f 1
  pub part3 : R.vec "part3" ≡ quarter 48 t f 0
  pub next3 : R.vec "next3" ≡ quarter 48 t f 1

-- ---- a cycle that reads R and writes over S

module _ (P : Scope) (R S : Store) where
  abbrev turned : Store
  turned = fire P R (set "adds" (none (name "adds"))) S

  abbrev summed : Bool → Store
  summed o = chosen o (fire P R sum_taken turned) turned

  -- by whether the sum is taken, and whether the bit is 1
  abbrev went : (a o : Bool) → Store
  went a o = chosen a (fire P R bits_shift (summed o)) turned

  abbrev G : Store
  G = fire P R product_goes S

  abbrev bit_now : Bool
  bit_now = holds P R (bit "rest" (num 0))

  module _ (w : Widths P) where
    module _ (s : Product) (h : IsProduct R s) (g : IsProduct S s) where
      -- the first cycle of a bit
      pub turns_now : R.vec "adds" ≡ 0 → IsProduct G s × (G.vec "adds" ≡ 1)
      turns_now meets = (
        record {
          rest = at "rest" ∙ g.rest;
          factor = at "factor" ∙ g.factor;
          total = at "total" ∙ g.total;
          lost = at "lost" ∙ g.lost;
          beyond = at "beyond" ∙ g.beyond;
        },
        at "adds" ∙ (λ i. fit (w.adds i) (flag (nat_eq (meets i) 0))),
      )
        where
          at : (x : String) → G.vec x ≡ turned.vec x
          at x = λ i. (went (nonzero (meets i)) bit_now).vec x

      -- the second one
      module _ (narrow : Narrow s) (adds : R.vec "adds" ≡ 1) (q : Quartered R s.total s.factor) (m : SumMet R) where
        two : 0 < 2
        two = omega arith

        abbrev j : ℕ
        j = joined s.total s.factor 0 narrow.total narrow.factor two

        abbrev c : ℕ
        c = carry s.total s.factor 0 narrow.total narrow.factor two

        all : c * 2 ^ 64 + j ≡ s.total + s.factor
        all = all_joined s.total s.factor 0 narrow.total narrow.factor two ∙ add-zero (s.total + s.factor)

        -- the highest quarter that is right, from all of them
        abbrev third : (p0 p1 n1 p2 n2 p3 n3 : ℕ) → ℕ
        third p0 p1 n1 p2 n2 p3 n3 = right (right (right p0 p1 n1) p2 n2) p3 n3

        -- the number that they are, and the carry
        met_is : R.vec "met" ≡ fit 64 j
        met_is = m.met ∙ (λ i. number_of (q.part0 i) (right (q.part0 i) (q.part1 i) (q.next1 i))
            (right (right (q.part0 i) (q.part1 i) (q.next1 i)) (q.part2 i) (q.next2 i))
            (third (q.part0 i) (q.part1 i) (q.next1 i) (q.part2 i) (q.next2 i) (q.part3 i) (q.next3 i)))

        carry_now : R.vec "right3" / 2 ^ 16 % 2 ≡ c
        carry_now = ap (λ n. n / 2 ^ 16 % 2) m.right3
            ∙ (λ i. third (q.part0 i) (q.part1 i) (q.next1 i) (q.part2 i) (q.next2 i) (q.part3 i) (q.next3 i) / 2 ^ 16 % 2)

        carry_low : c < 2
        carry_low = bit_low _

        j_low : j < 2 ^ 64
        j_low = joined_low _ _ _ _

        odd_now : bit_now ≡ odd s
        odd_now =
            (λ i. nonzero (chosen (nat_lt 0 (w.rest i)) (R.vec "rest" / 2 ^ 0 % 2) (R.stray "rest" 0)))
            ∙ odd_is (R.vec "rest") ∙ ap (λ n. nat_eq (n % 2) 1) h.rest

        at : (x : String) → G.vec x ≡ (fire P R bits_shift (summed (odd s))).vec x
        at x = λ i. (went (nonzero (adds i)) (odd_now i)).vec x

        turned_adds : turned.vec "adds" ≡ 0
        turned_adds = λ i. fit (w.adds i) (flag (nat_eq (adds i) 0))

        summed_adds : (o : Bool) → (summed o).vec "adds" ≡ 0
        summed_adds true = turned_adds
        summed_adds false = turned_adds

        summed_total : (o : Bool) → (summed o).vec "total" ≡ cond o ((s.total + s.factor) % 2 ^ 64) s.total
        summed_total true = (λ i. fit (w.total i) (met_is i)) ∙ left_is c j (s.total + s.factor) j_low all
        summed_total false = g.total

        lost_now : nonzero (R.vec "lost") ≡ s.lost
        lost_now = ap nonzero h.lost ∙ flag_back s.lost

        summed_beyond : (o : Bool) → (summed o).vec "beyond" ≡ flag (s.beyond || (o && (s.lost || nat_le (2 ^ 64) (s.total + s.factor))))
        summed_beyond true =
            let b = ap nonzero h.beyond ∙ flag_back s.beyond in
            let l = lost_now in
            let k = ap nonzero carry_now ∙ carry_is c j (s.total + s.factor) carry_low j_low all in
            (λ i. fit (w.beyond i) (flag (b i || nonzero (flag (l i ||
            nonzero (chosen (nat_lt 16 (w.right3 i)) (R.vec "right3" / 2 ^ 16 % 2) (R.stray "right3" 16)))))))
            ∙ ap (λ x. fit 1 (flag (s.beyond || nonzero (flag (s.lost || x))))) k
            ∙ ap (λ x. fit 1 (flag (s.beyond || x))) (flag_back (s.lost || nat_le (2 ^ 64) (s.total + s.factor)))
            ∙ fit_flag (s.beyond || (s.lost || nat_le (2 ^ 64) (s.total + s.factor)))
        summed_beyond false = g.beyond ∙ ap flag (or_none s.beyond)
          where
            or_none : (b : Bool) → b ≡ (b || false)
            or_none true = refl
            or_none false = refl

        pub adds_now : IsProduct G (bit_done s) × (G.vec "adds" ≡ 0)
        adds_now = (
          record {
            rest = at "rest" ∙ (λ i. fit (w.rest i) (h.rest i / 2 ^ 1)) ∙ halved s.rest narrow.rest;
            factor = at "factor" ∙ (λ i. fit (w.factor i) (fit (max (w.factor i) (w.factor i)) (h.factor i * 2 ^ 1))) ∙ doubled s.factor;
            total = at "total" ∙ summed_total (odd s);
            lost = at "lost" ∙ (let l = lost_now in
                (λ i. fit (w.lost i) (flag (l i ||
                nonzero (chosen (nat_lt 63 (w.factor i)) (h.factor i / 2 ^ 63 % 2) (R.stray "factor" 63)))))
                ∙ ap (λ x. fit 1 (flag (s.lost || x))) (high_is s.factor narrow.factor)) ∙ fit_flag (s.lost || nat_le (2 ^ 63) s.factor);
            beyond = at "beyond" ∙ summed_beyond (odd s);
          },
          at "adds" ∙ summed_adds (odd s),
        )
          where
            halved : (n : ℕ) → n < 2 ^ 64 → fit 64 (n / 2 ^ 1) ≡ n / 2
            halved n l = omega arith

            doubled : (n : ℕ) → fit 64 (fit 64 (n * 2 ^ 1)) ≡ n * 2 % 2 ^ 64
            doubled n = omega arith
