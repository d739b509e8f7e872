-- What an edge makes of the unit's registers.
use Rattle.std.proofs.Common.{◌≡◌, ◌<◌, ℕ, ◌+◌, ◌*◌, ◌/◌, ◌%◌, ◌^◌, Bool, true, false, ◌||◌, ◌&&◌, [], ◌∷◌, refl, ap, sym, ◌∙◌}
use Rattle.std.proofs.Common.{arith, nat_eq}
use Rattle.std.proofs.lemmas.Bool.{and_right}
use Prim.Native.String.{String}
use Rattle.verilog_tree.specs.Tree.{Expr, name, logic, both, one_of, none, Stmt, seq, branch}
use Rattle.verilog_tree.specs.Meaning.{Store, Scope, flag, fit, nonzero, chosen, fire}
use Rattle.verilog_tree.specs.Laws.{Rests}
use Rattle.verilog_tree.proofs.Leaves.{spares, fire_spares}
use Rattle.circuit_module.specs.Fixed.{set, block}
use Rattle.late_numbers.specs.Product.{Product, begun, bit_done, Narrow, IsProduct}
use Rattle.late_numbers.specs.Unit.{quarters_meet}
use Rattle.late_numbers.specs.ProductUnit.{product_goes}
use Rattle.late_numbers.proofs.Quarters.{whole_first}
use Rattle.late_numbers.proofs.OneBit.{Quartered, turns_now, adds_now}
use Rattle.late_numbers.proofs.OneBit as bits
use Rattle.joined_module.specs.Unit.{unit_stmt, operand_wires_of, product_takes, spoilt_set}
use Rattle.late_unit.specs.Works.{added, quarter, Quarters, unit_items}
use Rattle.late_unit.proofs.Over.{over}
use Rattle.late_unit.proofs.Wires.{Told, sum_met}

module _ (P : Scope) (R : Store) where
  abbrev pub Q : Bool → Scope
  Q b = over (unit_items b) P

  abbrev pub F : Bool → Store
  F b = fire (Q b) R (unit_stmt b) R

  -- ---- the quarters

  abbrev D : Bool → Store
  D b = fire (Q b) R quarters_meet R

  abbrev begun_set : Stmt
  begun_set =
      set "begun" (logic both (none (name "rst")) (logic one_of (logic both (name "starts") (name "multiplies"))
      (logic both (name "begun") (none (name "last")))))

  abbrev meets_set : Stmt
  meets_set = set "meets" (logic both (name "starts") (logic both (none (name "multiplies")) (none (name "rst"))))

  abbrev works : Stmt
  works = branch (name "begun") product_goes (seq spoilt_set product_takes)

  abbrev behind : Bool → Stmt
  behind false = block (set "was_less" (name "less") ∷ spoilt_set ∷ set "meets" (logic both (name "starts") (none (name "rst"))) ∷ [])
  behind true = block (set "was_less" (name "less") ∷ works ∷ begun_set ∷ meets_set ∷ [])

  quarter_left : (x : String) → spares x (behind false) ≡ true → spares x (behind true) ≡ true → (b : Bool) → (F b).vec x ≡ (D b).vec x
  quarter_left x h g false = fire_spares (Q false) R x (behind false) h (D false)
  quarter_left x h g true = fire_spares (Q true) R x (behind true) g (D true)

  module _ (t : Told R) (b : Bool) where
    abbrev a : ℕ
    a = R.vec "first"

    abbrev k : ℕ
    k = R.vec "less"

    abbrev d : ℕ
    d = added k (R.vec "second")

    met_as : (n c m : ℕ) →
        m ≡ fit 18 (fit 18 (0 + (fit 16 (a / 2 ^ n) * 2 ^ 1 + 1) + (0 + (fit 16 (R.vec "addend" / 2 ^ n) * 2 ^ 1 + c)))) →
        fit 17 (fit 17 (m / 2 ^ 1)) ≡ quarter n a d c
    met_as n c m e = let h = t.addend in ap (λ m. fit 17 (fit 17 (m / 2 ^ 1))) e ∙ ap (λ d. quarter n a d c) h

    -- those of both operands are taken
    pub quarters_taken : Quarters a d k (F b)
    quarters_taken = record {
      part0 = quarter_left "part0" refl refl b ∙ met_as 0 k (R.vec "meet0") t.meet0;
      part1 = quarter_left "part1" refl refl b ∙ met_as 16 0 (R.vec "meet1") t.meet1;
      next1 = quarter_left "next1" refl refl b ∙ met_as 16 1 (R.vec "more1") t.more1;
      part2 = quarter_left "part2" refl refl b ∙ met_as 32 0 (R.vec "meet2") t.meet2;
      next2 = quarter_left "next2" refl refl b ∙ met_as 32 1 (R.vec "more2") t.more2;
      part3 = quarter_left "part3" refl refl b ∙ met_as 48 0 (R.vec "meet3") t.meet3;
      next3 = quarter_left "next3" refl refl b ∙ met_as 48 1 (R.vec "more3") t.more3;
    }

  -- ---- the flags

  abbrev E : Store
  E = fire (Q true) R (set "was_less" (name "less")) (D true)

  pub less_taken : (b : Bool) → (F b).vec "was_less" ≡ fit 1 (R.vec "less")
  less_taken false = refl
  less_taken true = fire_spares (Q true) R "was_less" (block (works ∷ begun_set ∷ meets_set ∷ [])) refl E

  abbrev pub spoils_now : ℕ
  spoils_now = fit 1 (flag (nonzero (R.vec "first" / 2 ^ 64 % 2) || nonzero (R.vec "second" / 2 ^ 64 % 2)))

  pub plain_spoilt : (F false).vec "spoilt" ≡ spoils_now
  plain_spoilt = refl

  pub plain_meets : (F false).vec "meets" ≡ fit 1 (flag (nonzero (R.vec "starts") && nonzero (flag (nat_eq (R.vec "rst") 0))))
  plain_meets = refl

  pub times_meets : (F true).vec "meets" ≡ fit 1 (flag (nonzero (R.vec "starts") && nonzero
      (flag (nonzero (flag (nat_eq (R.vec "multiplies") 0)) && nonzero (flag (nat_eq (R.vec "rst") 0))))))
  times_meets = refl

  pub times_begun : (F true).vec "begun" ≡ fit 1 (flag (nonzero (flag (nat_eq (R.vec "rst") 0)) && nonzero
      (flag (nonzero (flag (nonzero (R.vec "starts") && nonzero (R.vec "multiplies"))) || nonzero
      (flag (nonzero (R.vec "begun") && nonzero (flag (nat_eq (R.vec "last") 0))))))))
  times_begun = refl

  -- ---- products

  -- what the product's part leaves
  abbrev G : Bool → Store
  G c = chosen c (fire (Q true) R product_goes E) (fire (Q true) R (seq spoilt_set product_takes) E)

  pub went : (x : String) → spares x (block (begun_set ∷ meets_set ∷ [])) ≡ true → (F true).vec x ≡ (G (nonzero (R.vec "begun"))).vec x
  went x h = fire_spares (Q true) R x (block (begun_set ∷ meets_set ∷ [])) h (G (nonzero (R.vec "begun")))

  module _ (idle : R.vec "begun" ≡ 0) where
    begins : (x : String) → spares x (block (begun_set ∷ meets_set ∷ [])) ≡ true → (F true).vec x ≡ (G false).vec x
    begins x h = went x h ∙ ap (λ n. (G (nonzero n)).vec x) idle

    pub times_spoilt : (F true).vec "spoilt" ≡ spoils_now
    times_spoilt = begins "spoilt" refl

    low_bits : (x : String) → fit 64 (fit 64 (R.vec x / 2 ^ 0)) ≡ R.vec x % 2 ^ 64
    low_bits x = omega arith

    -- both operands are taken
    pub product_taken : IsProduct (F true) (begun (R.vec "first" % 2 ^ 64) (R.vec "second" % 2 ^ 64)) × ((F true).vec "adds" ≡ 0)
    product_taken = (
      record {
        rest = begins "rest" refl ∙ low_bits "second";
        factor = begins "factor" refl ∙ low_bits "first";
        total = begins "total" refl;
        lost = begins "lost" refl;
        beyond = begins "beyond" refl;
      },
      begins "adds" refl,
    )

  widths : bits.Widths (Q true)
  widths = record {
    rest = refl;
    factor = refl;
    total = refl;
    lost = refl;
    beyond = refl;
    adds = refl;
    right3 = refl;
  }

  -- one goes on
  module _ (goes : R.vec "begun" ≡ 1) where
    -- its own part of the block
    abbrev H : Store
    H = fire (Q true) R product_goes E

    on : (x : String) → spares x (block (begun_set ∷ meets_set ∷ [])) ≡ true → (F true).vec x ≡ H.vec x
    on x h = went x h ∙ ap (λ n. (G (nonzero n)).vec x) goes

    pub spoilt_stays : (F true).vec "spoilt" ≡ R.vec "spoilt"
    spoilt_stays =
        went "spoilt" refl ∙ ap (λ n. (G (nonzero n)).vec "spoilt") goes ∙ fire_spares (Q true) R "spoilt" product_goes refl E

    module _ (s : Product) (h : IsProduct R s) where
      still : IsProduct E s
      still = record { rest = h.rest; factor = h.factor; total = h.total; lost = h.lost; beyond = h.beyond }

      on_product : (u : Product) → IsProduct H u → IsProduct (F true) u
      on_product u g = record {
        rest = on "rest" refl ∙ g.rest;
        factor = on "factor" refl ∙ g.factor;
        total = on "total" refl ∙ g.total;
        lost = on "lost" refl ∙ g.lost;
        beyond = on "beyond" refl ∙ g.beyond;
      }

      -- in the first edge of a bit it stays
      pub turned : R.vec "adds" ≡ 0 → IsProduct (F true) s × ((F true).vec "adds" ≡ 1)
      turned e =
          let a = turns_now (Q true) R E widths s h still e in (on_product s a.0, on "adds" refl ∙ a.1)

      -- in the second one the bit is done
      pub added_up : Narrow s → Told R → Quarters s.total s.factor 0 R → R.vec "adds" ≡ 1 →
          IsProduct (F true) (bit_done s) × ((F true).vec "adds" ≡ 0)
      added_up n t q e =
          let a = adds_now (Q true) R E widths s h still n e quartered (sum_met R t) in
          (on_product (bit_done s) a.0, on "adds" refl ∙ a.1)
        where
          quartered : Quartered R s.total s.factor
          quartered = record {
            part0 = q.part0;
            part1 = q.part1;
            next1 = q.next1;
            part2 = q.part2;
            next2 = q.next2;
            part3 = q.part3;
            next3 = q.next3;
          }

      -- its operands are its sum and its left operand
      pub product_quarters : (e f : Expr) → Rests (Q true) (operand_wires_of true e f) R → Narrow s → Told R →
          Quarters s.total s.factor 0 (F true)
      product_quarters e f o n t = record {
        part0 = q.part0 ∙ (λ i. quarter 0 (a i) (d i) (k i));
        part1 = q.part1 ∙ (λ i. quarter 16 (a i) (d i) 0);
        next1 = q.next1 ∙ (λ i. quarter 16 (a i) (d i) 1);
        part2 = q.part2 ∙ (λ i. quarter 32 (a i) (d i) 0);
        next2 = q.next2 ∙ (λ i. quarter 32 (a i) (d i) 1);
        part3 = q.part3 ∙ (λ i. quarter 48 (a i) (d i) 0);
        next3 = q.next3 ∙ (λ i. quarter 48 (a i) (d i) 1);
      }
        where
          operand : (x m y r : ℕ) → x ≡ fit 65 (chosen (nonzero (R.vec "begun")) (0 * 2 ^ 64 + r) y) → r ≡ m → m < 2 ^ 64 → x ≡ m
          operand x m y r e g l = e ∙ (λ i. fit 65 (chosen (nonzero (goes i)) (0 * 2 ^ 64 + g i) y)) ∙ whole_first m l

          q : Quarters (R.vec "first") (added (R.vec "less") (R.vec "second")) (R.vec "less") (F true)
          q = quarters_taken t true

          a : R.vec "first" ≡ s.total
          a = operand (R.vec "first") s.total _ (R.vec "total") o.0 h.total n.total

          whole : R.vec "second" ≡ s.factor
          whole = operand (R.vec "second") s.factor _ (R.vec "factor") o.1.0 h.factor n.factor

          k : R.vec "less" ≡ 0
          k = o.1.1.0 ∙ (λ i. fit 1 (flag (nonzero (R.vec "subtracts") && nonzero (flag (nat_eq (goes i) 0)))))
              ∙ ap (λ b. fit 1 (flag b)) (and_right (nonzero (R.vec "subtracts")) false refl)

          d : added (R.vec "less") (R.vec "second") ≡ s.factor
          d = (λ i. added (k i) (whole i)) ∙ plain s.factor n.factor
            where
              plain : (m : ℕ) → m < 2 ^ 64 → added 0 m ≡ m
              plain m l = omega arith
