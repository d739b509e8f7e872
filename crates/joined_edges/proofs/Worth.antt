-- The value behind an edge: it stays, the unit tells it, or the row does; and whether it was written.
use Rattle.std.proofs.Common.{◌≡◌, inl, inr, ℕ, zero, suc, ◌-◌, Bool, true, false, not, ◌||◌, ◌&&◌}
use Rattle.std.proofs.Common.{refl, ap, sym, ◌∙◌, subst, arith, nat_eq}
use Rattle.std.proofs.lemmas.Bool.{ne_eqb}
use Rattle.pcf_values.specs.declared.val.Val.{Val}
use Rattle.pcf_values.specs.declared.val.Val.TheVariants.{Number, Overflow}
use Rattle.pcf_values.specs.declared.operator.Operator.{Operator}
use Rattle.pcf_values.specs.Values.{val_op}
use Rattle.verilog_tree.specs.Meaning.{Store, Scope, flag, fit, nonzero, chosen, fire}
use Rattle.verilog_tree.proofs.Numbers.{fits}
use Rattle.circuit_module.specs.Stands.{value_number, Small}
use Rattle.circuit_module.proofs.Values.{value_low, fit_flag, op_small}
use Rattle.late_unit.specs.Works.{UnitRests, After, Works, NoLast, NotYet, Tells, unit_items, edges_of, is_minus, is_times}
use Rattle.late_unit.proofs.Over.{over_is}
use Rattle.late_unit.proofs.Steps.{late_free, late_rests, late_starts, late_goes, late_busy, late_takes, late_tells}
use Rattle.joined_core.specs.Rows.{is_zero}
use Rattle.joined_module.specs.Module.{value_stmt, zero_stmt_of}
use Rattle.joined_edges.proofs.Flags.{by_flag}

value_some : (v : Val) → nonzero (value_number v) ≡ not (is_zero v)
value_some (Number zero) = refl
value_some (Number (suc n)) = ap not (ne_eqb (suc n) 0 (λ e. omega arith))
value_some Overflow = refl

value_fits : (v : Val) → Small v → fit 65 (value_number v) ≡ value_number v
value_fits v s = fits 65 (value_number v) (value_low v s)

or_no : (b : Bool) → fit 1 (flag (nonzero (flag b))) ≡ flag b
or_no true = refl
or_no false = refl

-- what is known of an edge at which the unit isn't started anew
pub record ValueEdge (P : Scope) (b : Bool) (R T : Store) : Type 0 where
  pub unit : UnitRests P b R
  pub after : After P b R T
  pub rst : R.vec "rst" ≡ 0
  pub nonzero_wide : P.width "nonzero" ≡ 1
  pub changed_wide : P.width "changed" ≡ 1
  pub result : T.vec "result" ≡ (fire P R (value_stmt b) R).vec "result"
  pub nonzero : T.vec "nonzero" ≡ (fire P R (zero_stmt_of b) R).vec "nonzero"
  pub changed : T.vec "changed" ≡ (fire P R (zero_stmt_of b) R).vec "changed"

module _ (P : Scope) (b : Bool) (R T : Store) (e : ValueEdge P b R T) where
  result_wide : P.width "result" ≡ 65
  result_wide = ap (λ (X : Scope). X.width "result") (sym (over_is P (unit_items b) e.unit.declared))

  -- whether the value was 0, an edge behind it
  was_zero : (v : Val) → R.vec "result" ≡ value_number v → T.vec "nonzero" ≡ flag (not (is_zero v))
  was_zero v h =
      let w = e.nonzero_wide in
      e.nonzero ∙ (λ i. fit (w i) (flag (nonzero (h i)))) ∙ fit_flag (nonzero (value_number v)) ∙ ap flag (value_some v)

  abbrev takes_now : Bool
  takes_now = nonzero (flag (nonzero (R.vec "acts") && nonzero (R.vec "takes")))

  -- by whether the unit tells something
  abbrev result_by : (c : Bool) → ℕ → Bool → Bool → Bool → ℕ
  result_by false k m l q = chosen m (fit k (R.vec "late")) (chosen q (fit k (R.vec "first")) (R.vec "result"))
  result_by true k m l q =
      chosen m (fit k (R.vec "late")) (chosen l (fit k (R.vec "product")) (chosen q (fit k (R.vec "first")) (R.vec "result")))

  vec_of : (c : Bool) (X Y : Store) → (chosen c X Y).vec "result" ≡ chosen c (X.vec "result") (Y.vec "result")
  vec_of true X Y = refl
  vec_of false X Y = refl

  result_as : (c : Bool) → (fire P R (value_stmt c) R).vec "result" ≡
      result_by c (P.width "result") (nonzero (R.vec "meets")) (nonzero (R.vec "last")) takes_now
  result_as false =
      vec_of (nonzero (R.vec "meets")) _ _ ∙ ap (chosen (nonzero (R.vec "meets")) (fit (P.width "result") (R.vec "late")))
      (vec_of takes_now _ _)
  result_as true =
      vec_of (nonzero (R.vec "meets")) _ _ ∙ ap (chosen (nonzero (R.vec "meets")) (fit (P.width "result") (R.vec "late")))
      (vec_of (nonzero (R.vec "last")) _ _ ∙ ap (chosen (nonzero (R.vec "last")) (fit (P.width "result") (R.vec "product")))
      (vec_of takes_now _ _))

  abbrev changed_by : (c : Bool) → Bool → Bool → Bool → Bool
  changed_by false m l q = m || q
  changed_by true m l q = m || nonzero (flag (l || q))

  changed_as : (c : Bool) → (fire P R (zero_stmt_of c) R).vec "changed" ≡
      fit (P.width "changed") (flag (nonzero (R.vec "rst") || nonzero
      (flag (changed_by c (nonzero (R.vec "meets")) (nonzero (R.vec "last")) takes_now))))
  changed_as false = refl
  changed_as true = refl

  changed_is : T.vec "changed" ≡ flag (changed_by b (nonzero (R.vec "meets")) (nonzero (R.vec "last")) takes_now)
  changed_is =
      let w = e.changed_wide in
      let r = e.rst in
      let x : Bool = changed_by b (nonzero (R.vec "meets")) (nonzero (R.vec "last")) takes_now in
      e.changed ∙ changed_as b ∙ (λ i. fit (w i) (flag (nonzero (r i) || nonzero (flag x)))) ∙ or_no x

  result_is : T.vec "result" ≡ result_by b 65 (nonzero (R.vec "meets")) (nonzero (R.vec "last")) takes_now
  result_is =
      let w = result_wide in
      e.result ∙ result_as b ∙ (λ i. result_by b (w i) (nonzero (R.vec "meets")) (nonzero (R.vec "last")) takes_now)

  -- the unit tells nothing
  module _ (q : Bool) (hq : takes_now ≡ q) (y : NotYet b R) where
    quiet_result : (c : Bool) → NoLast c R → result_by c 65 (nonzero (R.vec "meets")) (nonzero (R.vec "last")) takes_now ≡
        chosen q (fit 65 (R.vec "first")) (R.vec "result")
    quiet_result false l =
        let m = y.0 in λ i. chosen (nonzero (m i)) (fit 65 (R.vec "late")) (chosen (hq i) (fit 65 (R.vec "first")) (R.vec "result"))
    quiet_result true l =
        let m = y.0 in
        λ i. chosen (nonzero (m i)) (fit 65 (R.vec "late")) (chosen (nonzero (l i)) (fit 65 (R.vec "product"))
        (chosen (hq i) (fit 65 (R.vec "first")) (R.vec "result")))

    quiet_changed : (c : Bool) → NoLast c R → changed_by c (nonzero (R.vec "meets")) (nonzero (R.vec "last")) takes_now ≡ q
    quiet_changed false l = let m = y.0 in λ i. nonzero (m i) || hq i
    quiet_changed true l =
        let m = y.0 in (λ i. nonzero (m i) || nonzero (flag (nonzero (l i) || hq i))) ∙ by_flag (flag q) q refl

    pub quiet_is : (T.vec "result" ≡ chosen q (fit 65 (R.vec "first")) (R.vec "result")) × (T.vec "changed" ≡ flag q)
    quiet_is = (result_is ∙ quiet_result b y.1, changed_is ∙ ap flag (quiet_changed b y.1))

  -- it tells the value
  module _ (v : Val) (s : Small v) where
    told_by : (c : Bool) → c ≡ b → Tells c v R → (T.vec "result" ≡ value_number v) × (T.vec "changed" ≡ 1)
    told_by false z (inl t) =
        let m = t.0 in
        let l = t.1 in (
          result_is ∙ ap (λ c. result_by c 65 (nonzero (R.vec "meets")) (nonzero (R.vec "last")) takes_now) (sym z)
              ∙ (λ i. chosen (nonzero (m i)) (fit 65 (l i)) (chosen takes_now (fit 65 (R.vec "first")) (R.vec "result"))) ∙ value_fits v s,
          changed_is ∙ ap (λ c. flag (changed_by c (nonzero (R.vec "meets")) (nonzero (R.vec "last")) takes_now)) (sym z)
              ∙ (λ i. flag (nonzero (m i) || takes_now)),
        )
    told_by false z (inr t) = absurd t
    told_by true z (inl t) =
        let m = t.0 in
        let l = t.1 in (
          result_is ∙ ap (λ c. result_by c 65 (nonzero (R.vec "meets")) (nonzero (R.vec "last")) takes_now) (sym z)
              ∙ (λ i. chosen (nonzero (m i)) (fit 65 (l i)) (chosen (nonzero (R.vec "last")) (fit 65 (R.vec "product"))
              (chosen takes_now (fit 65 (R.vec "first")) (R.vec "result")))) ∙ value_fits v s,
          changed_is ∙ ap (λ c. flag (changed_by c (nonzero (R.vec "meets")) (nonzero (R.vec "last")) takes_now)) (sym z)
              ∙ (λ i. flag (nonzero (m i) || nonzero (flag (nonzero (R.vec "last") || takes_now)))),
        )
    told_by true z (inr t) =
        let m = t.0 in
        let l = t.1.0 in
        let p = t.1.1 in (
          result_is ∙ ap (λ c. result_by c 65 (nonzero (R.vec "meets")) (nonzero (R.vec "last")) takes_now) (sym z)
              ∙ (λ i. chosen (nonzero (m i)) (fit 65 (R.vec "late")) (chosen (nonzero (l i)) (fit 65 (p i))
              (chosen takes_now (fit 65 (R.vec "first")) (R.vec "result")))) ∙ value_fits v s,
          changed_is ∙ ap (λ c. flag (changed_by c (nonzero (R.vec "meets")) (nonzero (R.vec "last")) takes_now)) (sym z)
              ∙ (λ i. flag (nonzero (m i) || nonzero (flag (nonzero (l i) || takes_now)))),
        )

    told_is : Tells b v R → (T.vec "result" ≡ value_number v) × (T.vec "changed" ≡ 1)
    told_is t = told_by b refl t

-- the value behind an edge, where it is late by so many edges
pub record Valued (b : Bool) (late : ℕ) (v : Val) (T : Store) : Type 0 where
  pub works : Works b late v T
  pub result : late ≡ 0 → T.vec "result" ≡ value_number v

-- an edge at which no number begins, and none is taken
pub record Quiet (b : Bool) (late : ℕ) (v : Val) (R T : Store) : Type 0 where
  pub valued : Valued b (late - 1) v T
  pub changed : T.vec "changed" ≡ flag (nat_eq late 1)
  pub nonzero : late - 1 ≡ 0 → nat_eq late 1 ≡ false → T.vec "nonzero" ≡ flag (not (is_zero v))

takes_as : (R : Store) (α τ : Bool) → R.vec "acts" ≡ flag α → R.vec "takes" ≡ flag τ →
    nonzero (flag (nonzero (R.vec "acts") && nonzero (R.vec "takes"))) ≡ (α && τ)
takes_as R α τ ha ht = (λ i. nonzero (flag (nonzero (ha i) && nonzero (ht i)))) ∙ go α τ
  where
    go : (a t : Bool) → nonzero (flag (nonzero (flag a) && nonzero (flag t))) ≡ (a && t)
    go true true = refl
    go true false = refl
    go false t = refl

-- nothing is taken, and no number begins
pub still_edge : (P : Scope) (b : Bool) (R T : Store) (e : ValueEdge P b R T) → takes_now P b R T e ≡ false → R.vec "starts" ≡ 0 →
    (late : ℕ) (v : Val) → Small v → Valued b late v R → Quiet b late v R T
still_edge P b R T edge q0 st zero v s w =
    let y = late_free P b v R edge.unit w.works in
    let q = quiet_is P b R T edge false q0 y.1 in
    record {
      valued = record {
        works = late_rests P b v v R T edge.unit edge.after edge.rst st w.works;
        result = λ z. q.0 ∙ w.result refl;
      };
      changed = q.1;
      nonzero = λ z o. was_zero P b R T edge v (w.result refl);
    }
still_edge P b R T edge q0 st (suc zero) v s w =
    let t = told_is P b R T edge v s (late_tells P b v R edge.unit w.works).1 in
    record {
      valued = record {
        works = late_takes P b v v R T edge.unit edge.after edge.rst st w.works;
        result = λ z. t.0;
      };
      changed = t.1;
      nonzero = λ z o. absurd cc;
    }
still_edge P b R T edge q0 st (suc (suc n)) v s w =
    let y = late_busy P b n v R edge.unit w.works in
    let q = quiet_is P b R T edge false q0 y.1 in
    let m : suc n ≡ suc (suc n) - 1 = omega arith in
    record {
      valued = record {
        works = subst (λ k. Works b k v T) m (late_goes P b n v R T edge.unit edge.after edge.rst st w.works);
        result = λ z. absurd (omega (arith, z));
      };
      changed = q.1 ∙ ap flag (sym (ne_eqb (suc (suc n)) 1 (λ h. omega arith)));
      nonzero = λ z o. absurd (omega (arith, z));
    }

-- no row is made that tells a value or begins a number
pub quiet_edge : (P : Scope) (b : Bool) (R T : Store) → ValueEdge P b R T → (α τ : Bool) → R.vec "acts" ≡ flag α → R.vec "takes" ≡ flag τ →
    (α && τ) ≡ false → R.vec "starts" ≡ 0 → (late : ℕ) (v : Val) → Small v → Valued b late v R → Quiet b late v R T
quiet_edge P b R T e α τ ha ht un st late v s w = still_edge P b R T e (takes_as R α τ ha ht ∙ un) st late v s w

-- no row is made at all
pub quiet_off : (P : Scope) (b : Bool) (R T : Store) → ValueEdge P b R T → R.vec "acts" ≡ 0 → R.vec "starts" ≡ 0 → (late : ℕ) (v : Val) →
    Small v → Valued b late v R → Quiet b late v R T
quiet_off P b R T e ha st late v s w =
    still_edge P b R T e (λ i. nonzero (flag (nonzero (ha i) && nonzero (R.vec "takes")))) st late v s w

-- a row is made that tells a value
pub takes_edge : (P : Scope) (b : Bool) (R T : Store) → ValueEdge P b R T → R.vec "acts" ≡ 1 → R.vec "takes" ≡ 1 → R.vec "starts" ≡ 0 →
    (v x : Val) → Works b 0 v R → Small x → R.vec "first" ≡ value_number x → Valued b 0 x T × (T.vec "changed" ≡ 1)
takes_edge P b R T edge ha ht st v x w small first =
    let y = late_free P b v R edge.unit w in
    let q = quiet_is P b R T edge true (takes_as R true true ha ht) y.1 in (
      record {
        works = late_rests P b v x R T edge.unit edge.after edge.rst st w;
        result = λ z. q.0 ∙ ap (fit 65) first ∙ value_fits x small;
      },
      q.1,
    )

-- a difference is told as the row says
less_is : (P : Scope) (b : Bool) (R : Store) → UnitRests P b R → (v : Val) → Works b 0 v R → (o : Bool) → R.vec "subtracts" ≡ flag o →
    R.vec "less" ≡ flag o
less_is P b R unit v w o subtracts = go b unit w
  where
    go : (b : Bool) → UnitRests P b R → Works b 0 v R → R.vec "less" ≡ flag o
    go false u w =
        let k : P.width "less" ≡ 1 = ap (λ (X : Scope). X.width "less") (sym (over_is P (unit_items false) u.declared)) in
        u.operands.1.1.0 ∙ (λ i. fit (k i) (subtracts i)) ∙ fit_flag o
    go true u w =
        let k : P.width "less" ≡ 1 = ap (λ (X : Scope). X.width "less") (sym (over_is P (unit_items true) u.declared)) in
        let g = w.1 in
        u.operands.1.1.0 ∙ (λ i. fit (k i) (flag (nonzero (subtracts i) && nonzero (flag (nat_eq (g i) 0))))) ∙ same o
      where
        same : (o : Bool) → fit 1 (flag (nonzero (flag o) && true)) ≡ flag o
        same true = refl
        same false = refl

-- a row is made that begins a number
pub begins_edge : (P : Scope) (b : Bool) (R T : Store) → ValueEdge P b R T → (α τ : Bool) → R.vec "acts" ≡ flag α → R.vec "takes" ≡ flag τ →
    (α && τ) ≡ false → R.vec "starts" ≡ 1 → (v : Val) → Works b 0 v R → (o : Operator) (x y : Val) → Small x → Small y →
    R.vec "first" ≡ value_number x → R.vec "second" ≡ value_number y → R.vec "subtracts" ≡ flag (is_minus o) →
    (b ≡ true → R.vec "multiplies" ≡ flag (is_times o)) → (is_times o ≡ true → b ≡ true) →
    Works b (edges_of o y) (val_op o x y) T × ((T.vec "changed" ≡ 0) × Small (val_op o x y))
begins_edge P b R T edge acts takes ha ht un st v works op x y sx sy hx hy minus times product =
    let z = late_free P b v R edge.unit works in
    let q = quiet_is P b R T edge false (takes_as R acts takes ha ht ∙ un) z.1 in
    let less = less_is P b R edge.unit v works (is_minus op) minus in (
      late_starts P b op x y v R T edge.unit edge.after edge.rst st works sx sy hx hy less times product,
      (q.1, op_small op x y sx sy),
    )
