-- An edge at which a row is made.
use Rattle.std.proofs.Common.{◌≡◌, ◌<◌, ◌≤◌, ℕ, zero, suc, ◌+◌, ◌^◌, Bool, true, false, cond, not, ◌&&◌, ◌||◌, List, []}
use Rattle.std.proofs.Common.{◌∷◌, length}
use Rattle.std.proofs.Common.{Some, refl, ap, sym, subst, ◌∙◌, arith, nat_lt, nat_eq}
use Rattle.std.proofs.lemmas.Bool.{and_parts, or_parts, ltb-true, not-true}
use Prim.Native.String.{String}
use Rattle.verilog_tree.specs.Tree.{Stmt, reg, name, num, branch, seq, skip, put, word_at}
use Rattle.verilog_tree.proofs.Leaves.{fire_spares}
use Rattle.verilog_tree.specs.Laws.{Declares, Settles}
use Rattle.verilog_tree.proofs.Lists.{stands_at}
use Rattle.verilog_tree.proofs.Settled.{set_here}
use Rattle.late_unit.specs.Works.{Works}
use Rattle.verilog_tree.specs.Meaning.{Scope, Store, chosen, fit, flag, nonzero, holds, assigned, fire}
use Rattle.verilog_tree.specs.WellFormed.{WellFormed}
use Rattle.verilog_tree.proofs.Numbers.{fits}
use Rattle.circuit_module.specs.Fixed.{set, block}
use Rattle.joined_core.specs.Circuit.{Room}
use Rattle.joined_module.specs.Names.{sig_name, box_name, next_sig_name, next_box_name, new_word_name}
use Rattle.joined_module.specs.Rows.{From, ForkDeed, no_fork, opens, keeps, closes, ModuleRow, is_new_cell, row_looks}
use Rattle.joined_module.specs.Fields.{needs_value, opens_fork, is_kept, kept_operand, answers_in, takes_operand, sees_later}
use Rattle.joined_module.specs.Fields.{vector_wide}
use Rattle.joined_module.specs.Module.{ModuleTable, found_rows, Widths, act_stmt, no_room_expr, joined_module}
use Rattle.joined_module.specs.Module.{store_registers, list_sets, pointers_vector}
use Rattle.joined_module.specs.Machine.{Tagged, RowCircuit, is_open, looked_place, has_cell, base_of, place_after, pointers_from}
use Rattle.joined_module.specs.Machine.{row_makes, too_many, forks_after, row_there, deed_there, all_there}
use Rattle.joined_module.specs.Machine.{operand_there, worth_there, seen_by}
use Rattle.joined_module.specs.Fits.{module_fits}
use Rattle.joined_found.specs.Found.{Each, next_field, next_row}
use Rattle.joined_clock.proofs.Registers.{cells_are, top_is}
use Rattle.joined_clock.proofs.Fetched.{Upto, upto_in, sigs_new, boxes_new}
use Rattle.joined_edges.specs.Timed.{Timed, rests, late_after, timed_act, RowRight, Among, ends_calm}
use Rattle.joined_edges.specs.Stands.{pointer_width, InRegisters, InCell, Going, Standing, Stands}
use Rattle.joined_edges.proofs.Lists.{RowSound, sigs_right, boxes_right}
use Rattle.joined_edges.proofs.Origins.{RowReads}
use Rattle.joined_edges.proofs.Sources.{Wide, pointer_fits}
use Rattle.joined_edges.proofs.Inputs.{Values, NoProduct}
use Rattle.joined_edges.proofs.Flags.{Flags}
use Rattle.joined_edges.proofs.Deeds.{ForksNow}
use Rattle.joined_edges.proofs.Forks.{falling_acted}
use Rattle.joined_edges.proofs.Items.{in_sigs, in_boxes, in_store}
use Rattle.joined_edges.proofs.Placed.{enough_is, deep_is, vector_is, reg_is}
use Rattle.joined_edges.proofs.Made as made
use Rattle.joined_edges.proofs.Rooms.{no_room_is, room_is}
use Rattle.joined_steps.proofs.Module.{W, fs, b, is, settles, declares, ok}
use Rattle.joined_steps.proofs.Edge.{Q, PP, G, low, done_old}
use Rattle.joined_steps.proofs.Values.{held_old}
use Rattle.joined_steps.proofs.Worths.{ValueNow, there_now, value_now, counts_now}
use Rattle.joined_steps.proofs.Ends.{ended_acted, full_acted}
use Rattle.joined_steps.proofs.Rested.{wires, forks_now}
use Rattle.joined_steps.proofs.Wait.{row_fits, all_within}

-- whether there is too little room, as the module tests it
abbrev room_test : (none makes cells opened forks : Bool) → Bool
room_test e m a o d = nonzero (flag (e || nonzero (flag (nonzero (flag (m && a)) || nonzero (flag (o && d))))))

-- ---- what is told of a row

-- an answered fork is open
open_of : (D : RowCircuit) (d : ForkDeed) → deed_there D d ≡ true → answers_in d ≡ true → is_open D.forks ≡ true
open_of D no_fork h a = absurd cc
open_of D (opens l b k) h a = absurd cc
open_of D (keeps x) h a = (and_parts (is_open D.forks) (operand_there D x) h).0
open_of D closes h a = h

deed_of : (D : RowCircuit) (r : ModuleRow) → row_there D r ≡ true → deed_there D r.fork ≡ true
deed_of D r h =
    let (a, h1) = and_parts (all_there D r.sigs) (all_there D r.boxes && (all_there D r.words && (deed_there D r.fork && worth_there D
    r.worth))) h in
    let (c, h2) = and_parts (all_there D r.boxes) (all_there D r.words && (deed_there D r.fork && worth_there D r.worth)) h1 in
    let (d, h3) = and_parts (all_there D r.words) (deed_there D r.fork && worth_there D r.worth) h2 in
    (and_parts (deed_there D r.fork) (worth_there D r.worth) h3).0

fresh_no : (r : ModuleRow) (t : Timed) → rests r t ≡ false → answers_in r.fork ≡ true → t.fresh ≡ false
fresh_no r t h a =
    let (x, y) = or_parts (nat_lt 0 t.late && needs_value r) _ h in
    let (u, v) = or_parts ((nat_lt 0 t.late || t.changed) && Rattle.joined_module.specs.Fields.tests_value r) (t.fresh && answers_in
    r.fork) y in
    go t.fresh (ap (λ c. t.fresh && c) (sym a) ∙ v)
  where
    go : (f : Bool) → (f && true) ≡ false → f ≡ false
    go true e = absurd cc
    go false e = refl

-- registers that take these pointers have them
taken_now : (W : Widths) (enough : Wide W) (P : Scope) (R E : Store) (x y : ℕ → String) (i n : ℕ) →
    Upto (λ k. E.vec (x k) ≡ fit (P.width (x k)) (R.vec (y k))) i n → Upto (λ k. P.width (x k) ≡ pointer_width W) i n →
    (ps : List Tagged) → length ps ≤ n → InRegisters W R y i ps → InRegisters W E x i ps
taken_now W enough P R E x y i n a w [] l h = tt
taken_now W enough P R E x y i zero a w (p ∷ ps) l h = absurd (omega arith)
taken_now W enough P R E x y i (suc n) a w (p ∷ ps) l h = (
  a.0 ∙ (λ j. fit (w.0 j) (h.0 j)) ∙ pointer_fits W enough p h.1.0,
  (h.1.0, taken_now W enough P R E x y (suc i) n a.1 w.1 ps (omega arith) h.1.1),
)

pointers_long : (r : ModuleRow) (D : RowCircuit) (ss : List From) → length (pointers_from r D ss) ≡ length ss
pointers_long r D [] = refl
pointers_long r D (s ∷ ss) = ap suc (pointers_long r D ss)

module _ (T : ModuleTable) (z : Room) (n : ℕ) (right : WellFormed (joined_module T z n) ≡ true) (S : Store) (start : S.vec "rst" ≡ 0) where
  abbrev pub Q' : Store
  Q' = Q T z n right S start

  abbrev pub G' : Store
  G' = G T z n right S start

  abbrev pub P' : Scope
  P' = PP T z n right S start

  abbrev F : List ModuleRow
  F = found_rows T.rows

  abbrev V : Widths
  V = W T z n

  abbrev w : ℕ
  w = V.place + V.tag

  abbrev enough : Wide V
  enough = enough_is F z T.start n (b T z n)

  some : 1 ≤ w
  some = let a = enough.some_place in omega arith

  sigs_wide : Upto (λ k. P'.width (sig_name k) ≡ w) 0 V.sigs
  sigs_wide =
      upto_in (λ k. P'.width (sig_name k) ≡ w) w sig_name 0 V.sigs
      (λ k h. (declares T z n right).width (reg (vector_wide w) (sig_name k))
      (in_sigs F z T.start n (b T z n) (reg (vector_wide w) (sig_name k)) h) (sig_name k)
      refl
      ∙ vector_is P'.param w some)

  boxes_wide : Upto (λ k. P'.width (box_name k) ≡ w) 0 V.boxes
  boxes_wide =
      upto_in (λ k. P'.width (box_name k) ≡ w) w box_name 0 V.boxes
      (λ k h. (declares T z n right).width (reg (vector_wide w) (box_name k))
      (in_boxes F z T.start n (b T z n) (reg (vector_wide w) (box_name k)) h) (box_name
      k) refl
      ∙ vector_is P'.param w some)

  top_wide : P'.width "top" ≡ V.place
  top_wide =
      reg_is F z T.start n (b T z n) enough (declares T z n right) S Q' (settles T z n right S) V.place enough.some_place "top"
      (in_store F z T.start n (b T z n) (reg (vector_wide V.place) "top") (stands_at (store_registers V) 3 _ refl))

  module _ (acts : Q'.vec "acts" ≡ 1) where
    abbrev after_lists : Store
    after_lists =
        fire P' Q' (block (list_sets box_name next_box_name 0 V.boxes)) (fire P' Q' (block (list_sets sig_name next_sig_name 0 V.sigs)) Q')

    abbrev behind_top : Stmt
    behind_top =
        seq (branch (name "makes") (put (word_at "cells" (name "base")) (pointers_vector new_word_name V.words)) skip)
        (seq (branch (name "ends") (set "ended" (num 1)) skip) (branch (no_room_expr V) (set "full" (num 1)) skip))

    pub top_new : G'.vec "top" ≡ fit V.place (Q'.vec "next_top")
    top_new =
        top_is P' V (fs T z n) n (b T z n) Q' (ok T z n right) (low T z n right S start)
        ∙ ap (λ m. (chosen (nonzero m) (fire P' Q' (act_stmt V) Q') Q').vec "top") acts
        ∙ fire_spares P' Q' "top" behind_top refl (fire P' Q' (set "top" (name "next_top")) after_lists)
        ∙ set_here "top" (assigned P' Q' (P'.width "top") (name "next_top")) after_lists
        ∙ ap (λ m. fit m (Q'.vec "next_top")) top_wide

    acts_bit : nonzero (Q'.vec "acts") ≡ true
    acts_bit = ap nonzero acts

    module _ (ps : ℕ → ℕ) (small : (i : ℕ) → i < n → ps i < 2 ^ 64) (t : Timed) (st : Stands T z n ps t Q') (runs : t.circuit.full ≡ false)
        (goes : t.circuit.ended ≡ false) (r : ModuleRow) (here : t.row ≡ Some r) (among : Among r F) (awake : rests r t ≡ false)
        (fit_table : module_fits T z n ≡ true) (calm : ends_calm r ≡ true) (row : RowRight ps T.rows t r) where
      abbrev pub D : RowCircuit
      D = t.circuit

      abbrev pub E : RowCircuit
      E = row_makes ps r D

      pub sd : Standing T.rows V (b T z n) n ps t Q'
      sd = st.standing runs

      pub g : Going T.rows V t Q'
      g = sd.going goes

      pub sound : RowSound V n D r
      sound =
          let a = row_fits V n r F among (all_within T z n fit_table) in
          record { within = a.0; sound = a.1; there = row.there }

      pub reads : RowReads V t r
      reads = record {
        fork = λ a. (fresh_no r t awake a, open_of D r.fork (deed_of D r row.there) a);
        cell = row.seen;
      }

      abbrev pub dc : Declares (is T z n)
      dc = declares T z n right

      abbrev pub se : Settles (is T z n) S Q'
      se = settles T z n right S

      no_product : (c : Bool) → c ≡ b T z n → Works c 0 D.value Q' → NoProduct c Q'
      no_product false e x = tt
      no_product true e x = x.1

      values_there : needs_value r ≡ true → Values n ps D Q' × NoProduct (b T z n) Q'
      values_there h =
          let l = there_now r t awake h in (
            record { result = sd.value l; small = sd.small; held = sd.held; ports = small },
            no_product (b T z n) refl (subst (λ k. Works (b T z n) k D.value Q') l sd.works),
          )

      pub value_is : ValueNow (b T z n) (late_after ps D r.worth t.late) E.value (nat_eq t.late 1 || takes_operand r.worth) G'
      value_is =
          value_now T z n right S start ps t sd r among
          (made.flags T.rows z T.start n (b T z n) dc S Q' se t r g here among sound reads) acts awake
          (made.first_now T.rows z T.start n (b T z n) dc S Q' se t r g here among sound reads ps values_there)
          (made.second_now T.rows z T.start n (b T z n) dc S Q' se t r g here among sound reads ps values_there) r.worth refl

      flags_now : Flags Q' r
      flags_now = made.flags T.rows z T.start n (b T z n) dc S Q' se t r g here among sound reads

      base_is : Q'.vec "base" ≡ base_of r D
      base_is = made.base_now T.rows z T.start n (b T z n) dc S Q' se t r g here among sound reads

      base_fits : base_of r D ≤ V.cells
      base_fits = made.base_room T.rows z T.start n (b T z n) dc S Q' se t r g here among sound reads

      room_bit : holds P' Q' (no_room_expr V) ≡ too_many z E
      room_bit =
          no_room_is V z refl refl enough.place (deep_is F z T.start n (b T z n)).depth P' Q' ps r D flags_now.none_is flags_now.makes_is
          flags_now.opens_is base_is base_fits g.depth g.few_forks (deed_of D r row.there)

      full_now : G'.vec "full" ≡ flag (too_many z E)
      full_now =
          full_acted T z n right S start acts
          ∙ (λ i. chosen (room_bit i) 1 ((st.full ∙ ap flag runs) i)) ∙ go (too_many z E)
        where
          go : (c : Bool) → chosen c 1 0 ≡ flag c
          go true = refl
          go false = refl

      ended_now : G'.vec "ended" ≡ flag r.ends
      ended_now =
          ended_acted T z n right S start acts
          ∙ (λ i. chosen (nonzero (flags_now.ends_is i)) 1 ((st.ended ∙ ap flag goes) i)) ∙ go r.ends
        where
          go : (c : Bool) → chosen (nonzero (flag c)) 1 0 ≡ flag c
          go true = refl
          go false = refl

      done_now' : G'.vec "done" ≡ flag t.done
      done_now' = done_old T z n right S start (st.ended ∙ ap flag goes) ∙ st.done

      -- the row, where it was made or there's no room
      abbrev pub acted_of : RowCircuit → Timed
      acted_of C = record {
        circuit = C;
        row = next_row T.rows (sees_later r) C.key (seen_by C.site C);
        late = late_after ps D r.worth t.late;
        seen = not (is_new_cell (row_looks r)) && nat_lt (place_after r D) (base_of r D);
        fresh = opens_fork r.fork || is_kept (kept_operand r.fork);
        changed = nat_eq t.late 1 || takes_operand r.worth;
        done = t.done;
      }

      -- a row that ends has room
      ends_room : r.ends ≡ true → too_many z E ≡ false
      ends_room e =
          let c : not (r.makes || opens_fork r.fork) ≡ true = ap (λ x. not x || not (r.makes || opens_fork r.fork)) (sym e) ∙ calm in
          let (m, o) = or_parts r.makes (opens_fork r.fork) (not-true (r.makes || opens_fork r.fork) c) in
          let a : Bool = nonzero (flag (nat_eq (Q'.vec "base") (fit V.place V.cells))) in
          let d : Bool = nonzero (flag (nat_eq (Q'.vec "depth") (fit V.depth V.forks))) in
          let mm = flags_now.makes_is ∙ ap flag m in
          let oo = flags_now.opens_is ∙ ap flag o in
          sym room_bit ∙ (λ i. room_test (nonzero (flags_now.none_is i)) (nonzero (mm i)) a (nonzero (oo i)) d)

      full_stands : too_many z E ≡ true → Stands T z n ps (acted_of (record D { full = true })) G'
      full_stands h = record {
        full = full_now ∙ ap flag h;
        done = done_now';
        ended = ended_now ∙ go r.ends refl ∙ ap flag (sym goes);
        not_both = λ e. goes;
        not_ended = λ e. st.not_ended goes;
        standing = λ e. absurd cc;
      }
        where
          go : (c : Bool) → r.ends ≡ c → flag c ≡ 0
          go true e = let x : true ≡ false = sym h ∙ ends_room e in absurd cc
          go false e = refl

      module _ (room : too_many z E ≡ false) where
        fits_room : (base_of r D + flag r.makes ≤ V.cells) × (length (forks_after ps r D r.fork) ≤ V.forks)
        fits_room =
            room_is V z refl refl enough.place (deep_is F z T.start n (b T z n)).depth P' Q' ps r D flags_now.none_is flags_now.makes_is
            flags_now.opens_is base_is base_fits g.depth g.few_forks (deed_of D r row.there) room

        forks_made : ForksNow V enough (deep_is F z T.start n (b T z n)) P' Q' (wires T z n right S start) G'
            (forks_after ps r D r.fork) (opens_fork r.fork || is_kept (kept_operand r.fork))
        forks_made =
            forks_now T z n right S start (forks_after ps r D r.fork) (opens_fork r.fork || is_kept (kept_operand r.fork))
            (made.forks_now T.rows z T.start n (b T z n) dc S Q' se t r g here among sound reads ps values_there acts fits_room.0
            fits_room.1)

        low_place : (m : ℕ) → m ≤ V.cells → fit V.place m ≡ m
        low_place m l = fits V.place m (let h = enough.place in omega arith)

        going_now : Each (λ f. G'.vec f.title ≡ next_field f (acted_of E).row) (fs T z n) →
            ((acted_of E).seen ≡ true → has_cell r.site ≡ true →
            looked_place r.site (pointers_from r D r.sigs) (pointers_from r D r.boxes) < base_of r D + flag r.makes →
            InCell V (G'.vec "cell_has") E.read) → Going T.rows V (acted_of E) G'
        going_now row_next cell =
            let l = low T z n right S start in
            let k = ok T z n right in
            let q = forks_made in
            let sr = sigs_right F z n r among D sound in
            let br = boxes_right F z n r among D sound in
            record {
              row = row_next;
              sigs = taken_now V enough P' Q' G' sig_name next_sig_name 0 V.sigs (sigs_new P' V (fs T z n) n (b T z n) Q' k l acts_bit)
                  sigs_wide
                  (pointers_from r D r.sigs) (subst (λ m. m ≤ V.sigs) (sym (pointers_long r D r.sigs)) sr.few)
                  (made.sigs_now T.rows z T.start n (b T z n) dc S Q' se t r g here among sound reads);
              few_sigs = subst (λ m. m ≤ V.sigs) (sym (pointers_long r D r.sigs)) sr.few;
              boxes = taken_now V enough P' Q' G' box_name next_box_name 0 V.boxes (boxes_new P' V (fs T z n) n (b T z n) Q' k l acts_bit)
                  boxes_wide (pointers_from r D r.boxes) (subst (λ m. m ≤ V.boxes) (sym (pointers_long r D r.boxes)) br.few)
                  (made.boxes_now T.rows z T.start n (b T z n) dc S Q' se t r g here among sound reads);
              few_boxes = subst (λ m. m ≤ V.boxes) (sym (pointers_long r D r.boxes)) br.few;
              cells = λ i m. subst (λ (v : ℕ → ℕ). InCell V (v i) (E.cells i)) (sym (cells_are P' V (fs T z n) n (b T z n) Q' k l))
                  (made.cells_now T.rows z T.start n (b T z n) dc S Q' se t r g here among sound reads acts fits_room.0 i m);
              read = cell;
              top = top_new ∙ ap (fit V.place) (made.top_now T.rows z T.start n (b T z n) dc S Q' se t r g here among sound reads
                  fits_room.0)
                  ∙ low_place (base_of r D + flag r.makes) fits_room.0;
              few = fits_room.0;
              forks = q.in_memory;
              depth = q.depth;
              few_forks = fits_room.1;
              falling = falling_acted ps r D g.falling (deed_of D r row.there);
              fresh = q.fresh;
              innermost = q.innermost;
              changed = value_is.changed;
              nonzero = value_is.nonzero;
            }

        made_stands : (r.ends ≡ false → Each (λ f. G'.vec f.title ≡ next_field f (acted_of E).row) (fs T z n)) →
            ((acted_of E).seen ≡ true → has_cell r.site ≡ true →
            looked_place r.site (pointers_from r D r.sigs) (pointers_from r D r.boxes) < base_of r D + flag r.makes →
            InCell V (G'.vec "cell_has") E.read) → Stands T z n ps (acted_of E) G'
        made_stands row_next cell =
            let told = made.told T.rows z T.start n (b T z n) dc S Q' se t r g here among sound reads in
            let c = counts_now T z n right S start ps t sd r among flags_now acts awake
            (made.first_now T.rows z T.start n (b T z n) dc S Q' se t r g here among sound reads ps values_there)
            (made.second_now T.rows z T.start n (b T z n) dc S Q' se t r g here among sound reads ps values_there)
            (ltb-true r.moves 256 told.moves) in
            record {
              full = full_now ∙ ap flag room ∙ ap flag (sym runs);
              done = done_now';
              ended = ended_now;
              not_both = λ e. let x : true ≡ false = sym e ∙ runs in absurd cc;
              not_ended = λ e. st.not_ended goes;
              standing = λ e. record {
                moves = c.moves;
                moves_low = c.low;
                carried = c.carried;
                value = value_is.value;
                small = value_is.small;
                works = value_is.works;
                held = held_old T z n right S start ps sd.held;
                going = λ e. going_now (row_next e) cell;
                late_done = λ e. let x : true ≡ false = sym e ∙ st.not_ended goes in absurd cc;
                carried_done = λ e. let x : true ≡ false = sym e ∙ st.not_ended goes in absurd cc;
              };
            }

      pub acted : (too_many z E ≡ false → r.ends ≡ false → Each (λ f. G'.vec f.title ≡ next_field f (acted_of E).row) (fs T z n)) →
          (too_many z E ≡ false → (acted_of E).seen ≡ true → has_cell r.site ≡ true →
          looked_place r.site (pointers_from r D r.sigs) (pointers_from r D r.boxes) < base_of r D + flag r.makes →
          InCell V (G'.vec "cell_has") E.read) → Stands T z n ps (timed_act ps z T.rows r t) G'
      acted row_next cell = go (too_many z E) refl
        where
          by : (c : Bool) → too_many z E ≡ c → Stands T z n ps (acted_of (cond c (record D { full = true }) E)) G' →
              Stands T z n ps (timed_act ps z T.rows r t) G'
          by c e h = subst (λ x. Stands T z n ps (acted_of (cond x (record D { full = true }) E)) G') (sym e) h

          go : (c : Bool) → too_many z E ≡ c → Stands T z n ps (timed_act ps z T.rows r t) G'
          go true e = by true e (full_stands e)
          go false e = by false e (made_stands e (row_next e) (cell e))
