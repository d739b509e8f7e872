-- The wires of slots: both lists after the row, the boxes of a fork that it opens, the words of its new cell, and what is looked at next.
use Rattle.std.proofs.Common.{◌≡◌, ◌<◌, ◌≤◌, ℕ, zero, suc, ◌+◌, ◌^◌, max, true, false, cond, List, [], ◌∷◌, length, Some, None}
use Rattle.std.proofs.Common.{refl, sym, ap, subst, ◌∙◌, arith}
use Rattle.std.proofs.lemmas.Bool.{and_parts, or_left, or_right}
use Prim.Native.String.{String}
use Rattle.verilog_tree.specs.Meaning.{Scope, Store, fit, bits, assigned}
use Rattle.joined_core.specs.Circuit.{Room}
use Rattle.joined_module.specs.Rows.{From, from_word, ModuleRow, from_at, is_new_cell, row_looks, opened_boxes}
use Rattle.joined_module.specs.Names.{by_name, tag_name, next_sig_name, next_box_name, open_box_name, new_word_name}
use Rattle.joined_module.specs.Fields.{Slot, by_field, tag_field, tag_of_from, tag_else, tag_or, first_tag, slot_expr, sig_slot}
use Rattle.joined_module.specs.Fields.{box_slot, open_slot, word_slot, looked_slot, all_slots, tag_bits, row_fields, answers_in}
use Rattle.joined_module.specs.Module.{Widths, widths}
use Rattle.joined_module.specs.Machine.{tagged_at, RowCircuit, pointer_from, pointers_from, from_there, all_there, takes_words}
use Rattle.joined_found.specs.Found.{Each}
use Rattle.joined_found.proofs.Eaches.{each_both}
use Rattle.joined_edges.specs.Stands.{pointer_width, InRegisters}
use Rattle.joined_module.specs.Fits.{source_within, sources_within}
use Rattle.joined_module.specs.Fits.{is_fork_source, takes_fork}
use Rattle.joined_edges.proofs.Slots.{IsKind, slot_is}
use Rattle.joined_edges.proofs.Sources.{Reads, Wide, Origins, pointer_fits, SourceRight, source_is}
use Rattle.joined_edges.proofs.Rows.{ByTag, field_slots, OfModule, of_sig, of_box, of_open, of_word, of_looked}

-- the wire of a slot is its expression
abbrev pub SlotWire : Scope → Store → Widths → List ModuleRow → Slot → Type 0
SlotWire P R W rows s = R.vec s.title ≡ assigned P R (pointer_width W) (slot_expr W.place W.tag rows s)

-- the row in the registers, with the wires of its slots
pub record Held (rows : List ModuleRow) (W : Widths) (P : Scope) (R : Store) (r : ModuleRow) : Type 0 where
  pub of : OfModule rows r
  pub fields : Each (λ f. R.vec f.title ≡ f.at r) (row_fields rows)
  pub wide : Each (λ f. P.width f.title ≡ f.bits) (row_fields rows)
  pub wires : Each (SlotWire P R W rows) (all_slots rows)

-- all that is told of a slot
pub record SlotRight (rows : List ModuleRow) (W : Widths) (P : Scope) (R : Store) (r : ModuleRow) (s : Slot) : Type 0 where
  pub by : R.vec (by_name s.title) ≡ (by_field rows s).at r
  pub tag : R.vec (tag_name s.title) ≡ (tag_field (tag_bits rows) rows s).at r
  pub tag_wide : P.width (tag_name s.title) ≡ tag_bits rows
  pub by_low : (by_field rows s).at r < 2 ^ (by_field rows s).bits
  pub tag_low : (tag_field (tag_bits rows) rows s).at r < 2 ^ tag_bits rows
  pub kind : IsKind s rows r
  pub wire : SlotWire P R W rows s

-- what is asked of a list
pub record ListRight (W : Widths) (r : ModuleRow) (D : RowCircuit) (ss : List From) (n : ℕ) : Type 0 where
  pub there : all_there D ss ≡ true
  pub within : sources_within W ss ≡ true
  pub few : length ss ≤ n
  pub answers : takes_fork ss ≡ true → answers_in r.fork ≡ true
  pub takes : (j i : ℕ) → from_at ss j ≡ Some (from_word i) → takes_words (Some r) ≡ true

module _ (rows : List ModuleRow) (z : Room) (P : Scope) (R : Store) (r : ModuleRow) where
  abbrev W : Widths
  W = widths rows z

  slots_right : Held rows W P R r → Each (SlotRight rows W P R r) (all_slots rows)
  slots_right h =
      let a = field_slots (λ f. R.vec f.title ≡ f.at r) rows h.fields in
      let b = field_slots (λ f. P.width f.title ≡ f.bits) rows h.wide in
      let c = field_slots (λ f. f.at r < 2 ^ f.bits) rows h.of.fits in
      let ab = each_both (ByTag (λ f. R.vec f.title ≡ f.at r) rows) (ByTag (λ f. P.width f.title ≡ f.bits) rows)
      (λ s. ByTag (λ f. R.vec f.title ≡ f.at r) rows s × ByTag (λ f. P.width f.title ≡ f.bits) rows s) (λ s x y. (x, y))
      (all_slots rows) a b in
      let cd = each_both (ByTag (λ f. f.at r < 2 ^ f.bits) rows) (λ s. IsKind s rows r)
      (λ s. ByTag (λ f. f.at r < 2 ^ f.bits) rows s × IsKind s rows r) (λ s x y. (x, y)) (all_slots rows) c h.of.kinds in
      let cde = each_both (λ s. ByTag (λ f. f.at r < 2 ^ f.bits) rows s × IsKind s rows r) (SlotWire P R W rows)
      (λ s. (ByTag (λ f. f.at r < 2 ^ f.bits) rows s × IsKind s rows r) × SlotWire P R W rows s) (λ s x y. (x, y)) (all_slots rows)
      cd h.wires in
      each_both (λ s. ByTag (λ f. R.vec f.title ≡ f.at r) rows s × ByTag (λ f. P.width f.title ≡ f.bits) rows s)
      (λ s. (ByTag (λ f. f.at r < 2 ^ f.bits) rows s × IsKind s rows r) × SlotWire P R W rows s) (SlotRight rows W P R r)
      (λ s x y. record {
        by = x.0.0;
        tag = x.0.1;
        tag_wide = x.1.1;
        by_low = y.0.0.0;
        tag_low = y.0.0.1;
        kind = y.0.1;
        wire = y.1;
      }) (all_slots rows) ab cde

  module _ (enough : Wide W) (D : RowCircuit) (O : Origins W r D P R) where
    pub slot_reads : (s : Slot) → SlotRight rows W P R r s → (f : From) → s.source r ≡ Some f → from_there D f ≡ true →
        source_within W f ≡ true → ((i : ℕ) → f ≡ from_word i → takes_words (Some r) ≡ true) →
        (is_fork_source f ≡ true → answers_in r.fork ≡ true) → Reads W R s.title (pointer_from r D f)
    slot_reads s h f e there within takes answers =
        let w : ℕ = max (pointer_width W) (bits P (slot_expr W.place W.tag rows s)) in
        let right : SourceRight W enough P R r D O (tag_name s.title) f = record {
          there = there;
          within = within;
          tag_wide = h.tag_wide;
          takes = takes;
          answers = answers;
          tag = λ n q. let c = tag_of n q in (h.tag ∙ c, subst (λ m. m < 2 ^ tag_bits rows) c h.tag_low);
        } in
        let whole = source_is W enough P R r D O (tag_name s.title) f right w in
        record {
          is = h.wire ∙ ap (fit (pointer_width W)) (slot_is P R W.place W.tag rows s r f e h.kind h.by h.by_low w ∙ whole.0)
              ∙ pointer_fits W enough (pointer_from r D f) whole.1;
          fit = whole.1;
        }
      where
        tag_of : (n : ℕ) → tag_of_from f ≡ Some n → (tag_field (tag_bits rows) rows s).at r ≡ n
        tag_of n q = ap (tag_or (first_tag s rows)) e ∙ ap (tag_else (first_tag s rows)) q

    -- ---- lists of them

    at_there : (ss : List From) (j : ℕ) (f : From) → all_there D ss ≡ true → from_at ss j ≡ Some f → from_there D f ≡ true
    at_there [] j f a e = absurd cc
    at_there (s ∷ ss) zero f a e =
        let (b, c) = and_parts (from_there D s) (all_there D ss) a in
        let q : s ≡ f = cc in
        subst (λ g. from_there D g ≡ true) q b
    at_there (s ∷ ss) (suc j) f a e = let (b, c) = and_parts (from_there D s) (all_there D ss) a in at_there ss j f c e

    at_within : (ss : List From) (j : ℕ) (f : From) → sources_within W ss ≡ true → from_at ss j ≡ Some f →
        source_within W f ≡ true
    at_within [] j f a e = absurd cc
    at_within (s ∷ ss) zero f a e =
        let (c, d) = and_parts (source_within W s) (sources_within W ss) a in
        let q : s ≡ f = cc in
        subst (λ g. source_within W g ≡ true) q c
    at_within (s ∷ ss) (suc j) f a e =
        let (c, d) = and_parts (source_within W s) (sources_within W ss) a in at_within ss j f d e

    at_low : (ss : List From) (j : ℕ) (f : From) → from_at ss j ≡ Some f → j < length ss
    at_low [] j f e = absurd cc
    at_low (s ∷ ss) zero f e = omega arith
    at_low (s ∷ ss) (suc j) f e = let h = at_low ss j f e in omega arith

    at_fork : (ss : List From) (j : ℕ) (f : From) → from_at ss j ≡ Some f → is_fork_source f ≡ true → takes_fork ss ≡ true
    at_fork [] j f e q = absurd cc
    at_fork (s ∷ ss) zero f e q = or_left (is_fork_source s) (takes_fork ss) (let d : s ≡ f = cc in ap is_fork_source d ∙ q)
    at_fork (s ∷ ss) (suc j) f e q = or_right (is_fork_source s) (takes_fork ss) (at_fork ss j f e q)

    in_registers : (x : ℕ → String) (ss : List From) (i : ℕ) →
        ((j : ℕ) (f : From) → from_at ss j ≡ Some f → Reads W R (x (i + j)) (pointer_from r D f)) → InRegisters W R x i
        (pointers_from r D ss)
    in_registers x [] i h = tt
    in_registers x (s ∷ ss) i h =
        let a = subst (λ k. Reads W R (x k) (pointer_from r D s)) (let e : i + 0 ≡ i = omega arith in e) (h 0 s refl) in (
          a.is,
          (
            a.fit,
            in_registers x ss (suc i) (λ j f e.
                subst (λ k. Reads W R (x k) (pointer_from r D f)) (let q : i + suc j ≡ suc i + j = omega arith in q) (h (suc j) f e)),
          ),
        )

    in_slots : (x : ℕ → String) (f : ℕ → Slot) (n : ℕ) (ss : List From) → ((j : ℕ) → (f j).title ≡ x j) →
        ((j : ℕ) → (f j).source r ≡ from_at ss j) → ((j : ℕ) → j < n → SlotRight rows W P R r (f j)) → ListRight W r D ss n →
        InRegisters W R x 0 (pointers_from r D ss)
    in_slots x f n ss titles sources slots h =
        in_registers x ss 0 (λ j g e.
        let low = at_low ss j g e in
        let few = h.few in
        let a = slot_reads (f j) (slots j (omega arith)) g (sources j ∙ e) (at_there ss j g h.there e)
        (at_within ss j g h.within e) (λ i q. h.takes j i (e ∙ ap Some q))
        (λ q. h.answers (at_fork ss j g e q)) in
        subst (λ y. Reads W R y (pointer_from r D g)) (titles j ∙ ap x (let q : j ≡ 0 + j = omega arith in q)) a)

    module _ (held : Held rows W P R r) where
      pub next_sigs : ListRight W r D r.sigs W.sigs → InRegisters W R next_sig_name 0 (pointers_from r D r.sigs)
      next_sigs h =
          in_slots next_sig_name sig_slot W.sigs r.sigs (λ j. refl) (λ j. refl)
          (of_sig (SlotRight rows W P R r) rows (slots_right held)) h

      pub next_boxes : ListRight W r D r.boxes W.boxes → InRegisters W R next_box_name 0 (pointers_from r D r.boxes)
      next_boxes h =
          in_slots next_box_name box_slot W.boxes r.boxes (λ j. refl) (λ j. refl)
          (of_box (SlotRight rows W P R r) rows (slots_right held)) h

      pub open_boxes : ListRight W r D (opened_boxes r.fork) W.saved → InRegisters W R open_box_name 0
          (pointers_from r D (opened_boxes r.fork))
      open_boxes h =
          in_slots open_box_name open_slot W.saved (opened_boxes r.fork) (λ j. refl) (λ j. refl)
          (of_open (SlotRight rows W P R r) rows (slots_right held)) h

      tagged_of : (ss : List From) (j : ℕ) (f : From) → from_at ss j ≡ Some f → tagged_at (pointers_from r D ss) j ≡ pointer_from r D f
      tagged_of [] j f e = absurd cc
      tagged_of (s ∷ ss) zero f e = let q : s ≡ f = cc in ap (pointer_from r D) q
      tagged_of (s ∷ ss) (suc j) f e = tagged_of ss j f e

      at_some : (ss : List From) (j : ℕ) → j < length ss → (f : From) × (from_at ss j ≡ Some f)
      at_some [] j l = absurd (omega arith)
      at_some (s ∷ ss) zero l = (s, refl)
      at_some (s ∷ ss) (suc j) l = at_some ss j (omega arith)

      pub new_words : r.makes ≡ true → all_there D r.words ≡ true → sources_within W r.words ≡ true →
          ((j i : ℕ) → from_at r.words j ≡ Some (from_word i) → takes_words (Some r) ≡ true) →
          (takes_fork r.words ≡ true → answers_in r.fork ≡ true) →
          (i : ℕ) → i < W.words → i < length r.words → Reads W R (new_word_name i) (tagged_at (pointers_from r D r.words) i)
      new_words m there within takes answers i l k =
          let f = at_some r.words i k in
          let a = slot_reads (word_slot i) (of_word (SlotRight rows W P R r) rows (slots_right held) i l) f.0
          (ap (λ b. cond b (from_at r.words i) None) m ∙ f.1) (at_there r.words i f.0 there f.1)
          (at_within r.words i f.0 within f.1) (λ j q. takes i j (f.1 ∙ ap Some q))
          (λ q. answers (at_fork r.words i f.0 f.1 q)) in
          subst (Reads W R (new_word_name i)) (sym (tagged_of r.words i f.0 f.1)) a

      pub looked : (f : From) → row_looks r ≡ Some f → is_new_cell (row_looks r) ≡ false → from_there D f ≡ true →
          source_within W f ≡ true → ((i : ℕ) → f ≡ from_word i → takes_words (Some r) ≡ true) →
          (is_fork_source f ≡ true → answers_in r.fork ≡ true) → Reads W R "looked" (pointer_from r D f)
      looked f e n there within takes answers =
          slot_reads looked_slot (of_looked (SlotRight rows W P R r) rows (slots_right held)) f
          (ap (λ b. cond b None (row_looks r)) n ∙ e) there within takes answers
