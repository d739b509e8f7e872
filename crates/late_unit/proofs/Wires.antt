-- The unit's wires, told by its registers and by both operands.
use Rattle.std.proofs.Common.{◌≡◌, ℕ, ◌+◌, ◌*◌, ◌/◌, ◌%◌, ◌^◌, Bool, true, false, ◌||◌, ◌&&◌, ap, sym, ◌∙◌, nat_eq}
use Rattle.pcf_values.specs.declared.val.Val.{Val}
use Rattle.verilog_tree.specs.Meaning.{Store, Scope, flag, fit, nonzero, chosen}
use Rattle.verilog_tree.specs.Laws.{Rests}
use Rattle.circuit_module.specs.Stands.{value_number}
use Rattle.late_numbers.proofs.Quarters.{right}
use Rattle.late_numbers.proofs.OneBit.{SumMet, right1_in, right2_in, right3_in, number_of}
use Rattle.joined_module.specs.Unit.{unit_wires}
use Rattle.late_unit.specs.Works.{added, SumWaits, unit_items}
use Rattle.late_unit.proofs.Over.{over}
use Rattle.late_unit.proofs.Numbers.{late_by, late_value}

-- two numbers and a carry, as a wire has them
abbrev meet : ℕ → ℕ → ℕ → ℕ → ℕ
meet n a b c = fit 18 (fit 18 (0 + (fit 16 (a / 2 ^ n) * 2 ^ 1 + 1) + (0 + (fit 16 (b / 2 ^ n) * 2 ^ 1 + c))))

-- what the wires of every unit are
pub record Told (R : Store) : Type 0 where
  pub addend : R.vec "addend" ≡ added (R.vec "less") (R.vec "second")
  pub meet0 : R.vec "meet0" ≡ meet 0 (R.vec "first") (R.vec "addend") (R.vec "less")
  pub meet1 : R.vec "meet1" ≡ meet 16 (R.vec "first") (R.vec "addend") 0
  pub more1 : R.vec "more1" ≡ meet 16 (R.vec "first") (R.vec "addend") 1
  pub meet2 : R.vec "meet2" ≡ meet 32 (R.vec "first") (R.vec "addend") 0
  pub more2 : R.vec "more2" ≡ meet 32 (R.vec "first") (R.vec "addend") 1
  pub meet3 : R.vec "meet3" ≡ meet 48 (R.vec "first") (R.vec "addend") 0
  pub more3 : R.vec "more3" ≡ meet 48 (R.vec "first") (R.vec "addend") 1
  pub right1 : R.vec "right1" ≡ right (R.vec "part0") (R.vec "part1") (R.vec "next1")
  pub right2 : R.vec "right2" ≡ right (R.vec "right1") (R.vec "part2") (R.vec "next2")
  pub right3 : R.vec "right3" ≡ right (R.vec "right2") (R.vec "part3") (R.vec "next3")
  pub past : R.vec "past" ≡ fit 1 (flag (nonzero (R.vec "spoilt") || nonzero
      (flag (nonzero (flag (nat_eq (R.vec "was_less") 0)) && nonzero (R.vec "right3" / 2 ^ 16 % 2)))))
  pub under : R.vec "under" ≡ fit 1 (flag (nonzero (R.vec "was_less") && nonzero (flag (nat_eq (R.vec "right3" / 2 ^ 16 % 2) 0))))
  pub met : R.vec "met" ≡ number_of (R.vec "part0") (R.vec "right1") (R.vec "right2") (R.vec "right3")
  pub late : R.vec "late" ≡
      fit 65 (chosen (nonzero (R.vec "past")) (2 ^ 64) (chosen (nonzero (R.vec "under")) 0 (0 + R.vec "met")))

-- each wire of the unit is its expression where all has settled
pub wires_told : (P : Scope) (R : Store) (b : Bool) → Rests (over (unit_items b) P) (unit_wires b) R → Told R
wires_told P R b r =
    let r1 = r.1 in
    let r2 = r1.1 in
    let r3 = r2.1 in
    let r4 = r3.1 in
    let r5 = r4.1 in
    let r6 = r5.1 in
    let r7 = r6.1 in
    let r8 = r7.1 in
    let r9 = r8.1 in
    let r10 = r9.1 in
    let r11 = r10.1 in
    let r12 = r11.1 in
    let r13 = r12.1 in
    let r14 = r13.1 in
    record {
      addend = r.0;
      meet0 = r1.0;
      meet1 = r2.0;
      more1 = r3.0;
      meet2 = r4.0;
      more2 = r5.0;
      meet3 = r6.0;
      more3 = r7.0;
      right1 = r8.0;
      right2 = r9.0;
      right3 = r10.0;
      past = r11.0;
      under = r12.0;
      met = r13.0;
      late = r14.0;
    }

-- those of a unit that has products, beside these
pub record ToldTimes (R : Store) : Type 0 where
  pub busy : R.vec "busy" ≡ fit 1 (flag (nonzero (R.vec "meets") || nonzero (R.vec "begun")))
  pub last : R.vec "last" ≡ fit 1 (flag (nonzero (R.vec "begun") && nonzero
      (flag (nonzero (flag (nat_eq (R.vec "adds") 0)) && nonzero (flag (nat_eq (flag (nonzero (R.vec "rest"))) 0))))))
  pub product : R.vec "product" ≡
      fit 65 (chosen (nonzero (flag (nonzero (R.vec "spoilt") || nonzero (R.vec "beyond")))) (2 ^ 64) (0 + R.vec "total"))

pub times_told : (P : Scope) (R : Store) → Rests (over (unit_items true) P) (unit_wires true) R → ToldTimes R
times_told P R r =
    let r8 = r.1.1.1.1.1.1.1.1 in
    let r15 = r8.1.1.1.1.1.1.1 in
    record { busy = r15.0; last = r15.1.0; product = r15.1.1.0 }

-- and of one that has none
pub plain_busy : (P : Scope) (R : Store) → Rests (over (unit_items false) P) (unit_wires false) R → R.vec "busy" ≡ fit 1 (R.vec "meets")
plain_busy P R r =
    let r8 = r.1.1.1.1.1.1.1.1 in
    let r15 = r8.1.1.1.1.1.1.1 in r15.0

-- ---- what the quarters in the registers are

module _ (R : Store) (t : Told R) where
  right2_told : R.vec "right2" ≡ right2_in R
  right2_told = t.right2 ∙ ap (λ n. right n (R.vec "part2") (R.vec "next2")) t.right1

  right3_told : R.vec "right3" ≡ right3_in R
  right3_told = t.right3 ∙ ap (λ n. right n (R.vec "part3") (R.vec "next3")) right2_told

  met_told : R.vec "met" ≡ number_of (R.vec "part0") (right1_in R) (right2_in R) (right3_in R)
  met_told =
      let a = t.right1 in
      let b = right2_told in
      let c = right3_told in
      t.met ∙ (λ i. number_of (R.vec "part0") (a i) (b i) (c i))

  pub sum_met : SumMet R
  sum_met = record { right3 = right3_told; met = met_told }

  pub late_told : R.vec "late" ≡
      late_by (R.vec "spoilt") (R.vec "was_less") (R.vec "part0") (R.vec "part1") (R.vec "next1") (R.vec "part2") (R.vec "next2")
      (R.vec "part3") (R.vec "next3")
  late_told =
      let p = t.past in
      let u = t.under in
      let m = met_told in
      let c = right3_told in
      t.late ∙ (λ i. fit 65 (chosen (nonzero (p i)) (2 ^ 64) (chosen (nonzero (u i)) 0 (0 + m i))))
      ∙ (λ i. fit 65 (chosen (nonzero (fit 1 (flag (nonzero (R.vec "spoilt") || nonzero
      (flag (nonzero (flag (nat_eq (R.vec "was_less") 0)) && nonzero (c i / 2 ^ 16 % 2)))))))
      (2 ^ 64) (chosen (nonzero (fit 1 (flag (nonzero (R.vec "was_less") && nonzero (flag (nat_eq (c i / 2 ^ 16 % 2) 0)))))) 0
      (0 + number_of (R.vec "part0") (right1_in R) (right2_in R) (right3_in R)))))

  -- so a sum whose quarters have met is told
  pub sum_told : (b : Bool) (v : Val) → SumWaits b v R → R.vec "late" ≡ value_number v
  sum_told b v w =
      let s = w.spoilt in
      let k = w.was_less in
      let q = w.quarters in
      late_told
      ∙ (λ i. late_by (s i) (k i) (q.part0 i) (q.part1 i) (q.next1 i) (q.part2 i) (q.next2 i) (q.part3 i) (q.next3 i))
      ∙ late_value w.less w.left w.right w.left_small w.right_small ∙ sym (ap value_number w.is)
