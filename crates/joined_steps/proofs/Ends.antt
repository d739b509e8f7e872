-- Edges at which no row of the table is made: the run is full, or has ended, or no row was found.
use Rattle.std.proofs.Common.{◌≡◌, ℕ, zero, suc, ◌+◌, ◌-◌, Bool, true, false, not, ◌&&◌, ◌||◌}
use Rattle.std.proofs.Common.{None, refl, ap, sym, ◌∙◌, subst, arith, nat_lt, nat_eq}
use Rattle.std.proofs.lemmas.Bool.{and_right, or_right, eqb-true, ne_eqb, lt-ltb}
use Prim.Native.String.{String}
use Rattle.verilog_tree.specs.Tree.{one, reg, output, num, name, sized, branch, skip, put, word_at, logic, both, one_of, test, same}
use Rattle.verilog_tree.specs.Meaning.{Scope, Store, chosen, flag, fit, nonzero, holds, fire}
use Rattle.verilog_tree.specs.WellFormed.{WellFormed}
use Rattle.verilog_tree.proofs.Leaves.{fire_spares}
use Rattle.circuit_module.specs.Fixed.{set, block}
use Rattle.verilog_tree.proofs.Lists.{in_front, stands_at}
use Rattle.joined_core.specs.Circuit.{Room}
use Rattle.joined_module.specs.Names.{sig_name, box_name, next_sig_name, next_box_name, new_word_name}
use Rattle.joined_module.specs.Unit.{unit_registers}
use Rattle.joined_module.specs.Module.{ModuleTable, found_rows, joined_ports, store_registers, list_sets, act_stmt, no_room_expr}
use Rattle.joined_module.specs.Module.{pointers_vector}
use Rattle.joined_module.specs.Module.{joined_module}
use Rattle.joined_clock.specs.Laws.{now_stmt}
use Rattle.joined_clock.proofs.Groups.{Fixed, store_fixed, port_fixed, list_spares, act_tail}
use Rattle.joined_clock.proofs.Registers.{ended_is, full_is, moves_is, carried_is}
use Rattle.joined_edges.specs.Timed.{Timed, timed_rest, timed_none}
use Rattle.joined_edges.specs.Stands.{Standing, Stands}
use Rattle.joined_edges.proofs.Flags.{by_flag}
use Rattle.joined_edges.proofs.Units.{moves_rests, moves_declared}
use Rattle.joined_edges.proofs.Worth.{Quiet, still_edge}
use Rattle.joined_edges.proofs.Counts.{Counted, counts_off}
use Rattle.joined_steps.proofs.Module.{W, fs, b, settles, declares, ok}
use Rattle.joined_steps.proofs.Says.{Says, says_of, or_none, rest_bit, rests_wire, acts_wire, busy_is}
use Rattle.joined_steps.proofs.Edge.{Q, PP, G, low, chosen_at, port_wide, store_wide, ended_old, full_old, done_now, done_old}
use Rattle.joined_steps.proofs.Values.{unit, value_edge, held_old, no_start}

not_below : (n : ℕ) → not (nat_lt 0 n) ≡ nat_eq n 0
not_below zero = refl
not_below (suc n) = ap not (lt-ltb 0 (suc n) (omega arith)) ∙ sym (ne_eqb (suc n) 0 (λ e. omega arith))

either_part : (c d : Bool) → (c || d) ≡ true → (c ≡ false → d ≡ true)
either_part true d h e = absurd cc
either_part false d h e = h

one_way : {A : Type 0} (c : Bool) (x : A) → chosen c x x ≡ x
one_way true x = refl
one_way false x = refl

module _ (T : ModuleTable) (z : Room) (n : ℕ) (right : WellFormed (joined_module T z n) ≡ true) (S : Store) (start : S.vec "rst" ≡ 0) where
  abbrev Q' : Store
  Q' = Q T z n right S start

  abbrev G' : Store
  G' = G T z n right S start

  abbrev P' : Scope
  P' = PP T z n right S start

  -- ---- a run that doesn't go on makes nothing

  acts_off : nonzero (Q'.vec "rests") ≡ true → Q'.vec "acts" ≡ 0
  acts_off h = acts_wire T z n right S ∙ ap (λ c. flag (not c && not (nonzero (Q'.vec "waits")))) h

  rests_on : (e f : Bool) → nonzero (Q'.vec "ended") ≡ e → nonzero (Q'.vec "full") ≡ f → (e || f) ≡ true → nonzero (Q'.vec "rests") ≡ true
  rests_on e f he hf h =
      ap nonzero (rests_wire T z n right S) ∙ (λ i. nonzero (flag (he i || (hf i || others)))) ∙ go e f h
    where
      others : Bool
      others =
          (nonzero (Q'.vec "busy") && nonzero (Q'.vec "needs")) ||
          (((nonzero (Q'.vec "busy") || nonzero (Q'.vec "changed")) && nonzero (Q'.vec "tests")) ||
          (nonzero (Q'.vec "fresh") && nonzero (Q'.vec "touches")))

      go : (e f : Bool) → (e || f) ≡ true → nonzero (flag (e || (f || others))) ≡ true
      go true f h = refl
      go false true h = refl
      go false false h = absurd cc

  -- ---- full

  pub full_edge : (ps : ℕ → ℕ) (t : Timed) → t.circuit.full ≡ true → Stands T z n ps t Q' → Stands T z n ps (timed_rest t) G'
  full_edge ps t full st =
      let a = acts_off (rests_on t.circuit.ended true (by_flag (Q'.vec "ended") t.circuit.ended st.ended)
      (ap nonzero st.full ∙ ap (λ c. nonzero (flag c)) full) (or_right t.circuit.ended true refl)) in
      let e = st.not_both full in
      record {
        full = full_old T z n right S start a ∙ st.full;
        done = done_old T z n right S start (st.ended ∙ ap flag e) ∙ st.done ∙ sym (still e);
        ended = ended_old T z n right S start a ∙ st.ended;
        not_both = st.not_both;
        not_ended = λ h. done_still e ∙ st.not_ended h;
        standing = λ h. absurd (no_both (sym full ∙ h));
      }
    where
      no_both : true ≡ false → ⊥
      no_both e = cc

      done_still : t.circuit.ended ≡ false → (t.done || (t.circuit.ended && nat_eq t.late 0)) ≡ t.done
      done_still e = ap (λ c. t.done || (c && nat_eq t.late 0)) e ∙ or_none t.done

      still : t.circuit.ended ≡ false → flag (t.done || (t.circuit.ended && nat_eq t.late 0)) ≡ flag t.done
      still e = ap flag (done_still e)

  -- ---- ended

  pub ended_edge : (ps : ℕ → ℕ) (t : Timed) → t.circuit.ended ≡ true → t.circuit.full ≡ false → Stands T z n ps t Q' →
      Stands T z n ps (timed_rest t) G'
  ended_edge ps t ended full st = record {
    full = full_old T z n right S start a ∙ st.full;
    done = done_now T z n right S start t.circuit.ended (nat_lt 0 t.late) t.done st.ended busy st.done
        ∙ ap (λ c. flag (t.done || (t.circuit.ended && c))) (not_below t.late);
    ended = ended_old T z n right S start a ∙ st.ended;
    not_both = st.not_both;
    not_ended = λ h. absurd (no_end (sym ended ∙ h));
    standing = λ h. record {
      moves = count.0.moves;
      moves_low = count.0.low;
      carried = count.0.carried;
      value = quiet.valued.result;
      small = s.small;
      works = quiet.valued.works;
      held = held_old T z n right S start ps s.held;
      going = λ g. absurd (no_end (sym ended ∙ g));
      late_done = λ g. told t.done refl g;
      carried_done = λ g. count.1;
    };
  }
    where
      s : Standing T.rows (W T z n) (b T z n) n ps t Q'
      s = st.standing full

      a : Q'.vec "acts" ≡ 0
      a = acts_off (rests_on true (nonzero (Q'.vec "full")) (ap nonzero st.ended ∙ ap (λ c. nonzero (flag c)) ended) refl refl)

      busy : Q'.vec "busy" ≡ flag (nat_lt 0 t.late)
      busy = busy_is P' (b T z n) t.late t.circuit.value Q' (unit T z n right S start) s.works

      count : Counted t.circuit.moves G' × (G'.vec "carried" ≡ 0)
      count =
          counts_off P' Q' G' t.circuit.moves (moves_declared T z n (declares T z n right))
          (moves_rests T z n (declares T z n right) S Q' (settles T z n right S)) a s.moves_low s.moves
          (moves_is P' (W T z n) (fs T z n) n (b T z n) Q' (ok T z n right) (low T z n right S start))
          (carried_is P' (W T z n) (fs T z n) n (b T z n) Q' (ok T z n right) (low T z n right S start))

      quiet : Quiet (b T z n) t.late t.circuit.value Q' G'
      quiet =
          still_edge P' (b T z n) Q' G' (value_edge T z n right S start)
          (ap (λ m. nonzero (flag (nonzero m && nonzero (Q'.vec "takes")))) a) (no_start T z n right S start a) t.late t.circuit.value
          s.small
          (record { works = s.works; result = s.value })

      no_end : true ≡ false → ⊥
      no_end e = cc

      none_left : t.late ≡ 0 → t.late - 1 ≡ 0
      none_left e = omega (arith, e)

      told : (c : Bool) → t.done ≡ c → (t.done || (t.circuit.ended && nat_eq t.late 0)) ≡ true → t.late - 1 ≡ 0
      told true e g = none_left (s.late_done e)
      told false e g =
          none_left (eqb-true t.late 0 (ap (λ c. c && nat_eq t.late 0) (sym ended)
          ∙ either_part t.done (t.circuit.ended && nat_eq t.late 0) g e))

  -- ---- what an acting row tells of the end

  module _ (acts : Q'.vec "acts" ≡ 1) where
    abbrev after_sigs : Store
    after_sigs = fire P' Q' (block (list_sets sig_name next_sig_name 0 (W T z n).sigs)) Q'

    abbrev after_lists : Store
    after_lists = fire P' Q' (block (list_sets box_name next_box_name 0 (W T z n).boxes)) after_sigs

    abbrev after_top : Store
    after_top = fire P' Q' (set "top" (name "next_top")) after_lists

    abbrev after_cells : Store
    after_cells =
        fire P' Q' (branch (name "makes") (put (word_at "cells" (name "base")) (pointers_vector new_word_name (W T z n).words)) skip)
        after_top

    abbrev after_end : Store
    after_end = fire P' Q' (branch (name "ends") (set "ended" (num 1)) skip) after_cells

    acted : (x : String) → (fire P' Q' (now_stmt (W T z n)) Q').vec x ≡ (fire P' Q' (act_tail (W T z n)) after_lists).vec x
    acted x = ap (λ m. (chosen (nonzero m) (fire P' Q' (act_stmt (W T z n)) Q') Q').vec x) acts

    lists_left : (x : String) → Fixed (W T z n) (fs T z n) n (b T z n) x → after_lists.vec x ≡ Q'.vec x
    lists_left x h =
        fire_spares P' Q' x (block (list_sets box_name next_box_name 0 (W T z n).boxes))
        (list_spares P' Q' x ((W T z n).place + (W T z n).tag) box_name next_box_name 0 (W T z n).boxes h.boxes) after_sigs
        ∙ fire_spares P' Q' x (block (list_sets sig_name next_sig_name 0 (W T z n).sigs))
        (list_spares P' Q' x ((W T z n).place + (W T z n).tag) sig_name next_sig_name 0 (W T z n).sigs h.sigs) Q'

    cells_left : (x : String) → after_cells.vec x ≡ after_top.vec x
    cells_left x =
        chosen_at (λ (X : Store). X.vec x) (holds P' Q' (name "makes")) _ _ ∙ one_way (holds P' Q' (name "makes")) (after_top.vec x)

    -- whether it has ended
    pub ended_acted : G'.vec "ended" ≡ chosen (nonzero (Q'.vec "ends")) 1 (Q'.vec "ended")
    ended_acted =
        let h : Fixed (W T z n) (fs T z n) n (b T z n) "ended" =
        store_fixed (W T z n) (fs T z n) n (b T z n) (ok T z n right) _
        (in_front _ (store_registers (W T z n)) (unit_registers (b T z n)) (stands_at (store_registers (W T z n)) 17 (reg one
        "ended") refl))
        "ended" refl in
        let w = store_wide T z n right S start 17 (reg one "ended") refl "ended" refl in
        let l = cells_left "ended" ∙ lists_left "ended" h in
        ended_is P' (W T z n) (fs T z n) n (b T z n) Q' (ok T z n right) (low T z n right S start)
        ∙ acted "ended"
        ∙ chosen_at (λ (X : Store). X.vec "ended") (holds P' Q' (no_room_expr (W T z n))) _ _
        ∙ one_way (holds P' Q' (no_room_expr (W T z n))) (after_end.vec "ended")
        ∙ chosen_at (λ (X : Store). X.vec "ended") (nonzero (Q'.vec "ends")) _ _
        ∙ (λ i. chosen (nonzero (Q'.vec "ends")) (fit (w i) 1) (l i))

    -- whether there is too little room, or no row
    pub full_acted : G'.vec "full" ≡ chosen (holds P' Q' (no_room_expr (W T z n))) 1 (Q'.vec "full")
    full_acted =
        let h : Fixed (W T z n) (fs T z n) n (b T z n) "full" =
        port_fixed (W T z n) (fs T z n) n (b T z n) (ok T z n right) _ (stands_at joined_ports 4 (output one "full") refl) "full"
        refl in
        let w = port_wide T z n right S start 4 (output one "full") refl "full" refl in
        let l : after_end.vec "full" ≡ Q'.vec "full" =
        chosen_at (λ (X : Store). X.vec "full") (nonzero (Q'.vec "ends")) _ _ ∙ one_way (nonzero (Q'.vec "ends")) (after_cells.vec "full")
        ∙ cells_left "full" ∙ lists_left "full" h in
        full_is P' (W T z n) (fs T z n) n (b T z n) Q' (ok T z n right) (low T z n right S start)
        ∙ acted "full" ∙ chosen_at (λ (X : Store). X.vec "full") (holds P' Q' (no_room_expr (W T z n))) _ _
        ∙ (λ i. chosen (holds P' Q' (no_room_expr (W T z n))) (fit (w i) 1) (l i))

  -- ---- no row

  pub none_edge : (ps : ℕ → ℕ) (t : Timed) → t.circuit.ended ≡ false → t.circuit.full ≡ false → t.row ≡ None → Stands T z n ps t Q' →
      Stands T z n ps (timed_none t) G'
  none_edge ps t ended full row st = record {
    full = full_acted acts ∙ ap (λ m. chosen (nonzero (flag (nonzero m || rest_of))) 1 (Q'.vec "full")) says.none;
    done = done_old T z n right S start (st.ended ∙ ap flag ended) ∙ st.done;
    ended = ended_acted acts ∙ ap (λ m. chosen (nonzero m) 1 (Q'.vec "ended")) says.ends ∙ st.ended;
    not_both = λ h. ended;
    not_ended = st.not_ended;
    standing = λ h. absurd (no_way h);
  }
    where
      s : Standing T.rows (W T z n) (b T z n) n ps t Q'
      s = st.standing full

      says : Says Q' None
      says = subst (Says Q') row (says_of (found_rows T.rows) Q' t.row (s.going ended).row)

      no_way : true ≡ false → ⊥
      no_way e = cc

      rests : Q'.vec "rests" ≡ 0
      rests =
          rests_wire T z n right S
          ∙ (let e = by_flag (Q'.vec "ended") t.circuit.ended st.ended ∙ ended in
          let f = by_flag (Q'.vec "full") t.circuit.full st.full ∙ full in
          let u = ap nonzero says.needs in
          let v = ap nonzero says.tests in
          let w = ap nonzero says.touches in
          (λ i. flag (rest_bit (e i) (f i) (nonzero (Q'.vec "busy")) (u i) (nonzero (Q'.vec "changed")) (v i) (nonzero (Q'.vec "fresh"))
          (w i))))
          ∙ (let a = and_right (nonzero (Q'.vec "busy")) false refl in
          let b = and_right (nonzero (Q'.vec "busy") || nonzero (Q'.vec "changed")) false refl in
          let c = and_right (nonzero (Q'.vec "fresh")) false refl in λ i. flag (a i || (b i || c i)))

      acts : Q'.vec "acts" ≡ 1
      acts = let r = rests in let w = says.waits in acts_wire T z n right S ∙ (λ i. flag (not (nonzero (r i)) && not (nonzero (w i))))

      rest_of : Bool
      rest_of =
          holds P' Q' (logic one_of (logic both (name "makes") (test same (name "base") (sized (W T z n).place (W T z n).cells)))
          (logic both (name "opens") (test same (name "depth") (sized (W T z n).depth (W T z n).forks))))
