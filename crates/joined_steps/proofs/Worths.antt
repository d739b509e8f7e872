-- An edge at which a row is made: its value, and the count of moves.
use Rattle.std.proofs.Common.{◌≡◌, ◌<◌, ℕ, zero, suc, ◌+◌, ◌-◌, Bool, true, false, not, ◌&&◌, ◌||◌, List, [], ◌∷◌}
use Rattle.std.proofs.Common.{Some, refl, ap, sym, subst, ◌∙◌, arith, nat_lt, nat_eq}
use Rattle.std.proofs.lemmas.Bool.{lt-ltb, or_parts, or_right}
use Rattle.pcf_values.specs.declared.val.Val.{Val}
use Rattle.pcf_values.specs.declared.operator.Operator.{Operator}
use Rattle.pcf_values.specs.declared.operator.Operator.TheVariants.{Plus, Minus, Times}
use Rattle.verilog_tree.specs.Meaning.{Scope, Store, flag, nonzero}
use Rattle.verilog_tree.specs.WellFormed.{WellFormed}
use Rattle.circuit_module.specs.Stands.{value_number, Small}
use Rattle.late_unit.specs.Works.{Works, edges_of}
use Rattle.late_unit.specs.Works as unit_of
use Rattle.joined_core.specs.Circuit.{Room}
use Rattle.joined_core.specs.Rows.{is_zero}
use Rattle.joined_module.specs.Rows.{ModuleRow, Operand, Worth, stays, tells, comes_to}
use Rattle.joined_module.specs.Fields.{needs_value, changes, takes_operand, makes_number, multiplies_in, subtracts_in}
use Rattle.joined_module.specs.Fields.{worth_first, first_operand, second_operand, is_minus, is_times}
use Rattle.joined_module.specs.Module.{ModuleTable, found_rows, has_product, joined_module}
use Rattle.joined_module.specs.Machine.{RowCircuit, operand_value, worth_value}
use Rattle.joined_clock.proofs.Registers.{moves_is, carried_is}
use Rattle.joined_edges.specs.Timed.{Timed, rests, late_after, Among, at_front, in_rest}
use Rattle.joined_edges.specs.Stands.{Standing}
use Rattle.joined_edges.proofs.Flags.{Flags, by_flag}
use Rattle.joined_edges.proofs.Units.{moves_rests, moves_declared}
use Rattle.joined_edges.proofs.Counts.{Counted, counts_on}
use Rattle.joined_edges.proofs.Worth.{quiet_edge, takes_edge, begins_edge}
use Rattle.joined_steps.proofs.Module.{W, fs, b, settles, declares, ok}
use Rattle.joined_steps.proofs.Says.{or_none, starts_wire}
use Rattle.joined_steps.proofs.Edge.{Q, PP, G, low}
use Rattle.joined_steps.proofs.Values.{value_edge}

-- the value behind the edge
pub record ValueNow (b : Bool) (late : ℕ) (v : Val) (new : Bool) (T : Store) : Type 0 where
  pub works : Works b late v T
  pub value : late ≡ 0 → T.vec "result" ≡ value_number v
  pub small : Small v
  pub changed : T.vec "changed" ≡ flag new
  pub nonzero : late ≡ 0 → new ≡ false → T.vec "nonzero" ≡ flag (not (is_zero v))

-- a row that needs the value finds it there
pub there_now : (r : ModuleRow) (t : Timed) → rests r t ≡ false → needs_value r ≡ true → t.late ≡ 0
there_now r t h n = go t.late refl (or_parts (nat_lt 0 t.late && needs_value r) _ h).0
  where
    go : (k : ℕ) → t.late ≡ k → (nat_lt 0 t.late && needs_value r) ≡ false → t.late ≡ 0
    go zero e g = e
    go (suc k) e g =
        let z : true ≡ false = sym ((λ i. (ap (nat_lt 0) e ∙ lt-ltb 0 (suc k) (omega arith)) i && n i)) ∙ g in absurd cc

some_late : (o : Operator) (y : Val) → edges_of o y ≡ 0 → ⊥
some_late Plus y e = absurd (omega (arith, e))
some_late Minus y e = absurd (omega (arith, e))
some_late Times y e = absurd (omega (arith, e))

same_minus : (o : Operator) → is_minus o ≡ unit_of.is_minus o
same_minus Plus = refl
same_minus Minus = refl
same_minus Times = refl

same_times : (o : Operator) → is_times o ≡ unit_of.is_times o
same_times Plus = refl
same_times Minus = refl
same_times Times = refl

-- where a row makes a product there is one
product_among : (r : ModuleRow) (rows : List ModuleRow) → Among r rows → multiplies_in r.worth ≡ true → has_product rows ≡ true
product_among r [] a h = elim a [ ]
product_among r (q ∷ rs) (at_front rs') h = Rattle.std.proofs.lemmas.Bool.or_left (multiplies_in q.worth) (has_product rs) h
product_among r (q ∷ rs) (in_rest q' rs' a) h =
    Rattle.std.proofs.lemmas.Bool.or_right (multiplies_in q.worth) (has_product rs) (product_among r rs a h)

module _ (T : ModuleTable) (z : Room) (n : ℕ) (right : WellFormed (joined_module T z n) ≡ true) (S : Store) (start : S.vec "rst" ≡ 0)
    (ps : ℕ → ℕ) (t : Timed) (sd : Standing T.rows (W T z n) (b T z n) n ps t (Q T z n right S start)) (r : ModuleRow)
    (among : Among r (found_rows T.rows)) (flags : Flags (Q T z n right S start) r) (acts : (Q T z n right S start).vec "acts" ≡ 1)
    (awake : rests r t ≡ false)
    (first : (x : Operand) → first_operand r ≡ Some x → ((Q T z n right S start).vec "first" ≡ value_number (operand_value ps t.circuit x))
    × Small (operand_value ps t.circuit x))
    (second : (x : Operand) → second_operand r ≡ Some x → ((Q T z n right S start).vec "second" ≡ value_number (operand_value ps
    t.circuit x))
    × Small (operand_value ps t.circuit x)) where
  abbrev Q' : Store
  Q' = Q T z n right S start

  abbrev G' : Store
  G' = G T z n right S start

  abbrev P' : Scope
  P' = PP T z n right S start

  abbrev D : RowCircuit
  D = t.circuit

  starts_now : (c : Bool) → makes_number r.worth ≡ c → Q'.vec "starts" ≡ flag c
  starts_now c e =
      starts_wire T z n right S
      ∙ (let h = by_flag (Q'.vec "computes") c (flags.computes_is ∙ ap flag e) in λ i. flag (nonzero (acts i) && h i))

  works_at : t.late ≡ 0 → Works (b T z n) 0 D.value Q'
  works_at e = subst (λ k. Works (b T z n) k D.value Q') e sd.works

  pub value_now : (w : Worth) → r.worth ≡ w →
      ValueNow (b T z n) (late_after ps D w t.late) (worth_value ps D w) (nat_eq t.late 1 || takes_operand w) G'
  value_now stays e =
      let q = quiet_edge P' (b T z n) Q' G' (value_edge T z n right S start) true false acts (flags.takes_is ∙ ap (λ w. flag
      (takes_operand w)) e)
      refl (starts_now false (ap makes_number e)) t.late D.value sd.small record { works = sd.works; result = sd.value } in
      record {
        works = q.valued.works;
        value = q.valued.result;
        small = sd.small;
        changed = q.changed ∙ ap flag (sym (or_none (nat_eq t.late 1)));
        nonzero = λ l c. q.nonzero l (sym (or_none (nat_eq t.late 1)) ∙ c);
      }
  value_now (tells x) e =
      let l = there_now r t awake (Rattle.std.proofs.lemmas.Bool.or_left (changes r.worth) _ (ap changes e)) in
      let f = first x (ap worth_first e) in
      let q = takes_edge P' (b T z n) Q' G' (value_edge T z n right S start) acts (flags.takes_is ∙ ap (λ w. flag (takes_operand w)) e)
      (starts_now false (ap makes_number e)) D.value (operand_value ps D x) (works_at l) f.1 f.0 in
      let zl : t.late - 1 ≡ 0 = omega (arith, l) in
      record {
        works = subst (λ k. Works (b T z n) k (operand_value ps D x) G') (sym zl) q.0.works;
        value = λ k. q.0.result refl;
        small = f.1;
        changed = q.1 ∙ ap flag (sym (or_right (nat_eq t.late 1) true refl));
        nonzero = λ k c. let y : true ≡ false = sym (or_right (nat_eq t.late 1) true refl) ∙ c in absurd cc;
      }
  value_now (comes_to o x y) e =
      let l = there_now r t awake (Rattle.std.proofs.lemmas.Bool.or_left (changes r.worth) _ (ap changes e)) in
      let f = first x (ap worth_first e) in
      let s = second y (ap (λ w. Rattle.joined_module.specs.Fields.worth_second w (Rattle.joined_module.specs.Fields.kept_operand
      r.fork)) e) in
      let q = begins_edge P' (b T z n) Q' G' (value_edge T z n right S start) true false acts
      (flags.takes_is ∙ ap (λ w. flag (takes_operand w)) e) refl (starts_now true (ap makes_number e)) D.value (works_at l) o
      (operand_value ps D x) (operand_value ps D y) f.1 s.1 f.0 s.0
      (flags.subtracts_is ∙ ap (λ w. flag (subtracts_in w)) e ∙ ap flag (same_minus o))
      (λ k. flags.multiplies_is ∙ ap (λ w. flag (multiplies_in w)) e ∙ ap flag (same_times o))
      (λ k. product_among r (found_rows T.rows) among (ap multiplies_in e ∙ same_times o ∙ k)) in
      let c : nat_eq t.late 1 ≡ false = ap (λ k. nat_eq k 1) l in
      record {
        works = q.0;
        value = λ k. absurd (some_late o (operand_value ps D y) k);
        small = q.1.1;
        changed = q.1.0 ∙ ap flag (sym (or_none (nat_eq t.late 1) ∙ c));
        nonzero = λ k m. absurd (some_late o (operand_value ps D y) k);
      }

  pub counts_now : r.moves < 256 → Counted (D.moves + r.moves) G'
  counts_now few =
      let l = low T z n right S start in
      let o = ok T z n right in
      (counts_on P' Q' G' true r.moves D.moves (moves_declared T z n (declares T z n right))
      (moves_rests T z n (declares T z n right) S Q' (settles T z n right S)) acts flags.counts_is few sd.moves_low sd.moves
      (moves_is P' (W T z n) (fs T z n) n (b T z n) Q' o l) (carried_is P' (W T z n) (fs T z n) n (b T z n) Q' o l)).0
