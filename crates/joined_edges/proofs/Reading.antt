-- What is looked at next: the wire that the next row is found by, and the cell that is read.
use Rattle.std.proofs.Common.{◌≡◌, ◌<◌, ◌≤◌, ℕ, ◌+◌, ◌-◌, Bool, true, false, not, cond, ◌&&◌, ◌||◌, List, [], ◌∷◌, length}
use Rattle.std.proofs.Common.{Some, refl, sym, ap, subst, ◌∙◌, arith, nat_lt, is_some}
use Rattle.std.proofs.lemmas.Bool.{and_parts, ltb-true, lt-ltb, ne_eqb}
use Rattle.std.proofs.lemmas.Nat.{mod_low}
use Prim.Native.String.{String}
use Rattle.verilog_tree.specs.Tree.{count, part, word}
use Rattle.verilog_tree.specs.Meaning.{Scope, Store, fit, flag, assigned}
use Rattle.joined_core.specs.Circuit.{Room}
use Rattle.joined_core.specs.Rows.{Site, nowhere, on_sigs, on_boxes, on_value, is_zero}
use Rattle.joined_module.specs.Rows.{From, from_sig, from_box, ModuleRow, from_at, looks_at, is_new_cell, row_looks}
use Rattle.joined_module.specs.Module.{Widths, widths, cell_width}
use Rattle.joined_module.specs.Machine.{Tagged, tagged_at, RowCircuit, base_of, pointers_from}
use Rattle.joined_module.specs.Machine.{from_there, all_there, has_cell, looked_place, seen_by, row_makes, place_after, read_after}
use Rattle.joined_module.specs.Fits.{source_within, sources_within}
use Rattle.joined_found.specs.Found.{SeenIn}
use Rattle.joined_edges.specs.Timed.{something}
use Rattle.joined_edges.specs.Stands.{pointer_width, InCell}
use Rattle.joined_module.specs.Fits.{takes_fork, looks_somewhere}
use Rattle.joined_edges.proofs.Sources.{Reads, Wide, Origins}
use Rattle.joined_edges.proofs.Pointers.{Held, ListRight, looked}
use Rattle.joined_edges.proofs.Cells.{CellWires, cell_read}

-- the pointer that is looked at
abbrev pub pointer_at : Site → (sigs boxes : List Tagged) → Tagged
pointer_at on_sigs ss bs = tagged_at ss 0
pointer_at on_boxes ss bs = tagged_at bs 0
pointer_at w ss bs = tagged_at [] 0

-- what is seen of a pointer is its tag
pub tag_seen : (W : Widths) (R : Store) (x : String) (q : Tagged) → Reads W R x q → fit W.tag (R.vec x) ≡ q.tag
tag_seen W R x q h = ap (fit W.tag) h.is ∙ mod_low q.place W.tag q.tag h.fit.tag

module _ (rows : List ModuleRow) (z : Room) (P : Scope) (R : Store) (r : ModuleRow) (enough : Wide (widths rows z)) (D : RowCircuit)
    (O : Origins (widths rows z) r D P R) (held : Held rows (widths rows z) P R r) where
  abbrev W : Widths
  W = widths rows z

  -- ---- behind a row that is made

  -- the first pointer of a list
  first_of : (ss : List From) (m : ℕ) → ListRight W r D ss m → row_looks r ≡ from_at ss 0 → is_some (from_at ss 0) ≡ true →
      is_new_cell (row_looks r) ≡ false → Reads W R "looked" (tagged_at (pointers_from r D ss) 0)
  first_of [] m l e o n = absurd cc
  first_of (s ∷ ss) m l e o n =
      looked rows z P R r enough D O held s e n (and_parts (from_there D s) (all_there D ss) l.there).0
      (and_parts (source_within W s) (sources_within W ss) l.within).0
      (λ i q. l.takes 0 i (ap Some q)) (λ q. l.answers (ap (λ c. c || takes_fork ss) q))

  module _ (acts : r.waits ≡ false) (sigs : ListRight W r D r.sigs W.sigs) (boxes : ListRight W r D r.boxes W.boxes)
      (somewhere : looks_somewhere r ≡ true) (old : is_new_cell (row_looks r) ≡ false) where
    look : (w : Site) → r.site ≡ w → has_cell w ≡ true →
        Reads W R "looked" (pointer_at w (pointers_from r D r.sigs) (pointers_from r D r.boxes))
    look nowhere e h = absurd cc
    look on_value e h = absurd cc
    look on_sigs e h =
        let q : row_looks r ≡ from_at r.sigs 0 = (λ i. looks_at (acts i) (e i) r.sigs r.boxes) in
        first_of r.sigs W.sigs sigs q (ap is_some (sym q) ∙ ap (λ w. not (has_cell w) || is_some (row_looks r)) (sym e) ∙ somewhere) old
    look on_boxes e h =
        let q : row_looks r ≡ from_at r.boxes 0 = (λ i. looks_at (acts i) (e i) r.sigs r.boxes) in
        first_of r.boxes W.boxes boxes q (ap is_some (sym q) ∙ ap (λ w. not (has_cell w) || is_some (row_looks r)) (sym e) ∙ somewhere) old

    pub looked_next : has_cell r.site ≡ true →
        Reads W R "looked" (pointer_at r.site (pointers_from r D r.sigs) (pointers_from r D r.boxes))
    looked_next h = look r.site refl h

    -- what is seen there
    pub seen_next : (ps : ℕ → ℕ) → (r.site ≡ on_value → R.vec "nonzero" ≡ flag (not (is_zero (row_makes ps r D).value))) →
        SeenIn W.tag R (seen_by r.site (row_makes ps r D))
    seen_next ps v = go r.site refl
      where
        go : (w : Site) → r.site ≡ w → SeenIn W.tag R (seen_by w (row_makes ps r D))
        go nowhere e = tt
        go on_value e = v e
        go on_sigs e = tag_seen W R "looked" (tagged_at (pointers_from r D r.sigs) 0) (look on_sigs e refl)
        go on_boxes e = tag_seen W R "looked" (tagged_at (pointers_from r D r.boxes) 0) (look on_boxes e refl)

    -- and the cell that is read, where it was in use before the row
    pub read_next : CellWires W P R → P.width "looked" ≡ pointer_width W → P.width "cell_has" ≡ cell_width W →
        ((i : ℕ) → i < D.top → InCell W (R.mem "cells" i) (D.cells i)) → base_of r D ≤ D.top → base_of r D ≤ W.cells →
        has_cell r.site ≡ true → place_after r D < base_of r D →
        InCell W (assigned P R (P.width "cell_has") (word "cells" (part "looked" (count (W.place + W.tag - 1)) (count W.tag))))
        (read_after r D)
    read_next wires lw cw cells low few h l =
        cell_read W P R enough wires lw cw q (looked_next h) (read_after r D) (subst (λ m. m < W.cells) (sym place) (omega arith))
        (subst (λ m. InCell W (R.mem "cells" m) (read_after r D)) (sym place)
        (subst (InCell W (R.mem "cells" (place_after r D))) (sym same) (cells (place_after r D) (omega arith))))
      where
        q : Tagged
        q = pointer_at r.site (pointers_from r D r.sigs) (pointers_from r D r.boxes)

        place : q.place ≡ place_after r D
        place = go r.site h
          where
            go : (w : Site) → has_cell w ≡ true →
                (pointer_at w (pointers_from r D r.sigs) (pointers_from r D r.boxes)).place ≡
                looked_place w (pointers_from r D r.sigs) (pointers_from r D r.boxes)
            go on_sigs h = refl
            go on_boxes h = refl
            go nowhere h = absurd cc
            go on_value h = absurd cc

        same : read_after r D ≡ D.cells (place_after r D)
        same =
            ap (λ c. cond (r.makes && c) (tagged_at (pointers_from r D r.words)) (D.cells (place_after r D)))
            (ne_eqb (place_after r D) (base_of r D) (λ e. apart e l)) ∙ none r.makes
          where
            apart : place_after r D ≡ base_of r D → place_after r D < base_of r D → ⊥
            apart e l = omega arith

            none : (c : Bool) → cond (c && false) (tagged_at (pointers_from r D r.words)) (D.cells (place_after r D)) ≡ D.cells
                (place_after r D)
            none true = refl
            none false = refl

  -- ---- where a row waits

  module _ (waits : r.waits ≡ true) (there : something r.site D.sigs D.boxes ≡ true) (few_sigs : length D.sigs ≤ W.sigs)
      (few_boxes : length D.boxes ≤ W.boxes) where
    wait_look : (w : Site) → r.site ≡ w → has_cell w ≡ true → Reads W R "looked" (pointer_at w D.sigs D.boxes)
    wait_look nowhere e h = absurd cc
    wait_look on_value e h = absurd cc
    wait_look on_sigs e h =
        let q : row_looks r ≡ Some (from_sig 0) = (λ i. looks_at (waits i) (e i) r.sigs r.boxes) in
        let t : nat_lt 0 (length D.sigs) ≡ true = ap (λ w. something w D.sigs D.boxes) (sym e) ∙ there in
        let l = ltb-true 0 (length D.sigs) t in
        looked rows z P R r enough D O held (from_sig 0) q (ap is_new_cell q) t (lt-ltb 0 W.sigs (omega arith)) (λ i x. absurd cc)
        (λ x. absurd cc)
    wait_look on_boxes e h =
        let q : row_looks r ≡ Some (from_box 0) = (λ i. looks_at (waits i) (e i) r.sigs r.boxes) in
        let t : nat_lt 0 (length D.boxes) ≡ true = ap (λ w. something w D.sigs D.boxes) (sym e) ∙ there in
        let l = ltb-true 0 (length D.boxes) t in
        looked rows z P R r enough D O held (from_box 0) q (ap is_new_cell q) t (lt-ltb 0 W.boxes (omega arith)) (λ i x. absurd cc)
        (λ x. absurd cc)

    pub seen_wait : (r.site ≡ on_value → R.vec "nonzero" ≡ flag (not (is_zero D.value))) → SeenIn W.tag R (seen_by r.site D)
    seen_wait v = go r.site refl
      where
        go : (w : Site) → r.site ≡ w → SeenIn W.tag R (seen_by w D)
        go nowhere e = tt
        go on_value e = v e
        go on_sigs e = tag_seen W R "looked" (tagged_at D.sigs 0) (wait_look on_sigs e refl)
        go on_boxes e = tag_seen W R "looked" (tagged_at D.boxes 0) (wait_look on_boxes e refl)

    pub read_wait : CellWires W P R → P.width "looked" ≡ pointer_width W → P.width "cell_has" ≡ cell_width W →
        ((i : ℕ) → i < D.top → InCell W (R.mem "cells" i) (D.cells i)) → D.top ≤ W.cells → has_cell r.site ≡ true →
        looked_place r.site D.sigs D.boxes < D.top →
        InCell W (assigned P R (P.width "cell_has") (word "cells" (part "looked" (count (W.place + W.tag - 1)) (count W.tag))))
        (D.cells (looked_place r.site D.sigs D.boxes))
    read_wait wires lw cw cells few h l = go r.site refl h l
      where
        go : (w : Site) → r.site ≡ w → has_cell w ≡ true → looked_place w D.sigs D.boxes < D.top →
            InCell W (assigned P R (P.width "cell_has") (word "cells" (part "looked" (count (W.place + W.tag - 1)) (count W.tag))))
            (D.cells (looked_place w D.sigs D.boxes))
        go nowhere e h l = absurd cc
        go on_value e h l = absurd cc
        go on_sigs e h l =
            cell_read W P R enough wires lw cw (tagged_at D.sigs 0) (wait_look on_sigs e refl) (D.cells (tagged_at D.sigs 0).place)
            (omega arith)
            (cells (tagged_at D.sigs 0).place l)
        go on_boxes e h l =
            cell_read W P R enough wires lw cw (tagged_at D.boxes 0) (wait_look on_boxes e refl) (D.cells (tagged_at D.boxes 0).place)
            (omega arith)
            (cells (tagged_at D.boxes 0).place l)
