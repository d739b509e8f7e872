-- Where the wires of the row's pointers stand in the module, and how wide they are declared.
use Rattle.std.proofs.Common.{◌≡◌, ◌<◌, ◌≤◌, ℕ, zero, suc, ◌+◌, ◌-◌, ◌*◌, ◌^◌, max, Bool, List, [], ◌∷◌, Some}
use Rattle.std.proofs.Common.{refl, sym, ap, subst, ◌∙◌, arith}
use Rattle.std.proofs.lemmas.Nat.{mod_below, pow_pos}
use Prim.Native.String.{String}
use Rattle.verilog_tree.specs.Tree.{count, minus, plus, both, Expr, sized, name, part, two, pick, logic, none, Item, wire, reg, upto}
use Rattle.verilog_tree.specs.Tree.{memory, one}
use Rattle.verilog_tree.specs.Meaning.{Scope, Store, bits, value, assigned, width_of, scope}
use Rattle.joined_core.specs.Circuit.{Room}
use Rattle.joined_module.specs.Rows.{ModuleRow}
use Rattle.joined_module.specs.Names.{sig_name, box_name, word_name, fork_box_name, open_box_name, new_word_name}
use Rattle.joined_module.specs.Fields.{vector_wide, Field, Slot, slot_expr, all_slots, row_fields}
use Rattle.joined_module.specs.Module.{Widths, widths, cell_width, fork_width, field_registers, pointer_registers}
use Rattle.joined_module.specs.Module.{store_registers, pointer_parts, place_wires, slot_wires}
use Rattle.joined_module.specs.Module.{rest_wires, module_items}
use Rattle.joined_found.specs.Found.{Each}
use Rattle.joined_found.proofs.Eaches.{each_map, each_both}
use Rattle.joined_found.proofs.Bits.{bits_fit, bits_some}
use Rattle.joined_found.proofs.Fits.{fields_wide}
use Rattle.verilog_tree.specs.Items.{Has, here, further}
use Rattle.verilog_tree.specs.Laws.{Declares, Settles}
use Rattle.verilog_tree.proofs.Lists.{stands_at, item_at}
use Rattle.joined_edges.specs.Stands.{pointer_width}
use Rattle.joined_edges.proofs.Items.{in_words, in_fork_boxes, in_place, in_slots, in_fields, in_sigs, in_boxes, in_store, in_rest}
use Rattle.joined_edges.proofs.Sources.{Wide}
use Rattle.joined_edges.proofs.Rows.{of_looked, of_open, of_word}
use Rattle.joined_edges.proofs.Cells.{CellWires}
use Rattle.joined_edges.proofs.Deeds.{ForkWires, WideForks}
use Rattle.joined_edges.proofs.Pointers.{SlotWire}
use Rattle.joined_edges.proofs.Origins.{PlaceWires}

one_more : (w j : ℕ) → w * suc j ≡ w + w * j
one_more w j = omega arith

-- a pointer in a vector
part_has : (w : ℕ) (v : String) (x : ℕ → String) (l i n j : ℕ) → j < n →
    Has (wire (vector_wide w) (x (i + j)) (part v (count (l + w * j + w - 1)) (count (l + w * j)))) (pointer_parts w v x l i n)
part_has w v x l i zero j k = absurd (omega arith)
part_has w v x l i (suc n) zero k =
    subst (λ m. Has (wire (vector_wide w) (x m) (part v (count (l + w * 0 + w - 1)) (count (l + w * 0)))) (pointer_parts w v x l i (suc n)))
    (let e : i ≡ i + 0 = omega arith in e)
    (subst (λ m. Has (wire (vector_wide w) (x i) (part v (count (m + w - 1)) (count m))) (pointer_parts w v x l i (suc n)))
    (let e : l ≡ l + w * 0 = omega arith in e) (here (pointer_parts w v x (l + w) (suc i) n)))
part_has w v x l i (suc n) (suc j) k =
    subst (λ m. Has (wire (vector_wide w) (x m) (part v (count (l + w * suc j + w - 1)) (count (l + w * suc j))))
    (pointer_parts w v x l i (suc n)))
    (let e : suc i + j ≡ i + suc j = omega arith in e)
    (subst (λ m. Has (wire (vector_wide w) (x (suc i + j)) (part v (count (m + w - 1)) (count m))) (pointer_parts w v x l i (suc n)))
    (let h = one_more w j in let e : l + w + w * j ≡ l + w * suc j = omega arith in e)
    (further (wire (vector_wide w) (x i) (part v (count (l + w - 1)) (count l))) (pointer_parts w v x (l + w) (suc i) n)
    (part_has w v x (l + w) (suc i) n j (omega arith))))

fields_have : (fs : List Field) → Each (λ f. Has (reg f.wide f.title) (field_registers fs)) fs
fields_have [] = tt
fields_have (f ∷ fs) = (
  here (field_registers fs),
  each_map (λ g. Has (reg g.wide g.title) (field_registers fs)) (λ g. Has (reg g.wide g.title) (field_registers (f ∷ fs)))
      (λ g h. further (reg f.wide f.title) (field_registers fs) h) fs (fields_have fs),
)

slots_have : (p t : ℕ) (rows : List ModuleRow) (ss : List Slot) →
    Each (λ s. Has (wire (vector_wide (p + t)) s.title (slot_expr p t rows s)) (slot_wires p t rows ss)) ss
slots_have p t rows [] = tt
slots_have p t rows (s ∷ ss) = (
  here (slot_wires p t rows ss),
  each_map (λ g. Has (wire (vector_wide (p + t)) g.title (slot_expr p t rows g)) (slot_wires p t rows ss))
      (λ g. Has (wire (vector_wide (p + t)) g.title (slot_expr p t rows g)) (slot_wires p t rows (s ∷ ss)))
      (λ g h. further (wire (vector_wide (p + t)) s.title (slot_expr p t rows s)) (slot_wires p t rows ss) h) ss (slots_have p t rows ss),
)

first_has : (w : ℕ) (x : ℕ → String) (n : ℕ) → 0 < n → Has (reg (vector_wide w) (x 0)) (pointer_registers w x 0 n)
first_has w x zero l = absurd (omega arith)
first_has w x (suc n) l = here (pointer_registers w x 1 n)

pub vector_is : (p : String → ℕ) (w : ℕ) → 1 ≤ w → width_of p (vector_wide w) ≡ w
vector_is p w l = omega arith

module _ (rows : List ModuleRow) (z : Room) (start n : ℕ) (b : Bool) where
  abbrev pub W : Widths
  W = widths rows z

  abbrev pub fs : List Field
  fs = row_fields rows

  abbrev pub is : List Item
  is = module_items W start rows fs n b

  abbrev w : ℕ
  w = pointer_width W

  abbrev slots : List Item
  slots = slot_wires W.place W.tag rows (all_slots rows)

  -- ---- what they are

  module _ (enough : Wide W) (declares : Declares is) (S R : Store) (settles : Settles is S R) where
    abbrev pub P : Scope
    P = scope is

    some : 1 ≤ w
    some = let a = enough.some_place in omega arith

    -- a wire that is a vector
    pub wire_is : (m : ℕ) → 1 ≤ m → (x : String) (e : Expr) → Has (wire (vector_wide m) x e) is → R.vec x ≡ assigned P R m e
    wire_is m l x e h = settles.wires (vector_wide m) x e h ∙ ap (λ k. assigned P R k e) (vector_is P.param m l)

    pub reg_is : (m : ℕ) → 1 ≤ m → (x : String) → Has (reg (vector_wide m) x) is → P.width x ≡ m
    reg_is m l x h = declares.width (reg (vector_wide m) x) h x refl ∙ vector_is P.param m l

    word_wire : (i : ℕ) → i < W.words → R.vec (word_name i) ≡ assigned P R w (part "cell_has" (count (w * i + w - 1)) (count (w * i)))
    word_wire i l =
        let e : 0 + i ≡ i = omega arith in
        let q : 0 + w * i ≡ w * i = omega arith in
        ap (λ k. R.vec (word_name k)) (sym e)
        ∙ wire_is w some (word_name (0 + i)) (part "cell_has" (count (0 + w * i + w - 1)) (count (0 + w * i)))
        (in_words rows z start n b (wire (vector_wide w) (word_name (0 + i))
        (part "cell_has" (count (0 + w * i + w - 1)) (count (0 + w * i))))
        (part_has w "cell_has" word_name 0 0 W.words i l))
        ∙ ap (λ k. assigned P R w (part "cell_has" (count (k + w - 1)) (count k))) q

    box_wire : (i : ℕ) → i < W.saved →
        R.vec (fork_box_name i) ≡ assigned P R w (part "fork_has" (count (W.place + w * i + w - 1)) (count (W.place + w * i)))
    box_wire i l =
        let e : 0 + i ≡ i = omega arith in
        ap (λ k. R.vec (fork_box_name k)) (sym e)
        ∙ wire_is w some (fork_box_name (0 + i)) (part "fork_has" (count (W.place + w * i + w - 1)) (count (W.place + w * i)))
        (in_fork_boxes rows z start n b
        (wire (vector_wide w) (fork_box_name (0 + i)) (part "fork_has" (count (W.place + w * i + w - 1)) (count (W.place + w * i))))
        (part_has w "fork_has" fork_box_name W.place 0 W.saved i l))

    pub place_wires_are : PlaceWires W P R
    place_wires_are = record {
      words = word_wire;
      boxes = box_wire;
      fork_top = wire_is W.place enough.some_place "fork_top" (part "fork_has" (count (W.place - 1)) (count 0))
          (in_place rows z start n b (wire (vector_wide W.place) "fork_top" (part "fork_has" (count (W.place - 1)) (count 0)))
          (stands_at (place_wires W) 0 _ refl));
      base = wire_is W.place enough.some_place "base" (pick (name "touches") (name "fork_top") (name "top"))
          (in_place rows z start n b (wire (vector_wide W.place) "base" (pick (name "touches") (name "fork_top") (name "top")))
          (stands_at (place_wires W) 4 _ refl));
      next_top = wire_is W.place enough.some_place "next_top" (pick (name "makes") (two plus (name "base") (sized 1 1)) (name "base"))
          (in_place rows z start n b
          (wire (vector_wide W.place) "next_top" (pick (name "makes") (two plus (name "base") (sized 1 1)) (name "base")))
          (stands_at (place_wires W) 5 _ refl));
      cell_wide = reg_is (cell_width W) (omega arith) "cell_has" (in_store rows z start n b (reg (vector_wide (cell_width W)) "cell_has")
          (stands_at (store_registers W) 4 _ refl));
      fork_wide = reg_is (fork_width W) (let a = enough.some_place in omega arith) "fork_has" (in_store rows z start n b
          (reg (vector_wide (fork_width W)) "fork_has") (stands_at (store_registers W) 11 _ refl));
    }

    pub slot_wires_are : Each (SlotWire P R W rows) (all_slots rows)
    slot_wires_are =
        each_map (λ s. Has (wire (vector_wide w) s.title (slot_expr W.place W.tag rows s)) slots) (SlotWire P R W rows)
        (λ s h. wire_is w some s.title (slot_expr W.place W.tag rows s)
        (in_slots rows z start n b (wire (vector_wide w) s.title (slot_expr W.place W.tag rows s)) h))
        (all_slots rows) (slots_have W.place W.tag rows (all_slots rows))

    pub fields_declared : Each (λ f. P.width f.title ≡ f.bits) fs
    fields_declared =
        each_both (λ f. Has (reg f.wide f.title) (field_registers fs)) (λ f. width_of P.param f.wide ≡ f.bits)
        (λ f. P.width f.title ≡ f.bits)
        (λ f h e. declares.width (reg f.wide f.title) (in_fields rows z start n b (reg f.wide f.title) h) f.title refl ∙ e) fs
        (fields_have fs)
        (fields_wide P.param rows)

    pub sig_wide : 0 < W.sigs → P.width (sig_name 0) ≡ w
    sig_wide l = reg_is w some (sig_name 0) (in_sigs rows z start n b (reg (vector_wide w) (sig_name 0)) (first_has w sig_name W.sigs l))

    pub box_wide : 0 < W.boxes → P.width (box_name 0) ≡ w
    box_wide l = reg_is w some (box_name 0) (in_boxes rows z start n b (reg (vector_wide w) (box_name 0)) (first_has w box_name W.boxes l))

    -- wires of slots are so wide
    abbrev pub SlotLow : Slot → Type 0
    SlotLow s = (P.width s.title ≡ w) × (R.vec s.title < 2 ^ w)

    pub slots_low : Each SlotLow (all_slots rows)
    slots_low =
        each_map (λ s. Has (wire (vector_wide w) s.title (slot_expr W.place W.tag rows s)) slots) SlotLow
        (λ s h. let i = in_slots rows z start n b (wire (vector_wide w) s.title (slot_expr W.place W.tag rows s)) h in (
          declares.width (wire (vector_wide w) s.title (slot_expr W.place W.tag rows s)) i s.title refl ∙ vector_is P.param w some,
          subst (λ v. v < 2 ^ w) (sym (wire_is w some s.title (slot_expr W.place W.tag rows s) i))
              (mod_below (value P R (max w (bits P (slot_expr W.place W.tag rows s))) (slot_expr W.place W.tag rows s)) (2 ^ w)
              (pow_pos w)),
        )) (all_slots rows) (slots_have W.place W.tag rows (all_slots rows))

    -- ---- memories

    pub memory_is : (m : ℕ) → 1 ≤ m → (x : String) (k : ℕ) → Has (memory (vector_wide m) x (count k)) is → (P.width x ≡ m) × (P.words x ≡ k)
    memory_is m l x k h = (
      declares.width (memory (vector_wide m) x (count k)) h x refl ∙ vector_is P.param m l,
      declares.words (vector_wide m) x (count k) h,
    )

    pub cells_are : (P.width "cells" ≡ cell_width W) × (P.words "cells" ≡ max 1 W.cells)
    cells_are =
        memory_is (cell_width W) (omega arith) "cells" (max 1 W.cells)
        (in_store rows z start n b (memory (vector_wide (cell_width W)) "cells" (count (max 1 W.cells)))
        (stands_at (store_registers W) 2 _ refl))

    pub forks_are : (P.width "forks" ≡ fork_width W) × (P.words "forks" ≡ max 1 W.forks)
    forks_are =
        memory_is (fork_width W) (let a = enough.some_place in omega arith) "forks" (max 1 W.forks)
        (in_store rows z start n b (memory (vector_wide (fork_width W)) "forks" (count (max 1 W.forks)))
        (stands_at (store_registers W) 8 _ refl))

    pub answers_are : (P.width "answers" ≡ 65) × (P.words "answers" ≡ max 1 W.forks)
    answers_are = (
      declares.width (memory (upto (count 64)) "answers" (count (max 1 W.forks)))
          (in_store rows z start n b (memory (upto (count 64)) "answers" (count (max 1 W.forks)))
          (stands_at (store_registers W) 9 _ refl)) "answers" refl,
      declares.words (upto (count 64)) "answers" (count (max 1 W.forks))
          (in_store rows z start n b (memory (upto (count 64)) "answers" (count (max 1 W.forks))) (stands_at (store_registers W) 9 _ refl)),
    )

    pub looked_wide : P.width "looked" ≡ w
    looked_wide = (of_looked SlotLow rows slots_low).0

    pub kept_wide : P.width "kept" ≡ 65
    kept_wide = declares.width (reg (upto (count 64)) "kept")
        (in_store rows z start n b (reg (upto (count 64)) "kept") (stands_at (store_registers W) 12 _ refl)) "kept" refl

    -- ---- forks

    pub open_low : (i : ℕ) → i < W.saved → (P.width (open_box_name i) ≡ w) × (R.vec (open_box_name i) < 2 ^ w)
    open_low i l = of_open SlotLow rows slots_low i l

    pub word_low : (i : ℕ) → i < W.words → (P.width (new_word_name i) ≡ w) × (R.vec (new_word_name i) < 2 ^ w)
    word_low i l = of_word SlotLow rows slots_low i l

    rest_wire : (m : ℕ) → 1 ≤ m → (k : ℕ) (x : String) (e : Expr) → item_at (rest_wires W) k ≡ Some (wire (vector_wide m) x e) →
        R.vec x ≡ assigned P R m e
    rest_wire m l k x e h = wire_is m l x e
        (in_rest rows z start n b (wire (vector_wide m) x e) (stands_at (rest_wires W) k (wire (vector_wide m) x e) h))

    rest_wide : (m : ℕ) → 1 ≤ m → (k : ℕ) (x : String) (e : Expr) → item_at (rest_wires W) k ≡ Some (wire (vector_wide m) x e) →
        P.width x ≡ m
    rest_wide m l k x e h =
        declares.width (wire (vector_wide m) x e)
        (in_rest rows z start n b (wire (vector_wide m) x e) (stands_at (rest_wires W) k (wire (vector_wide m) x e) h))
        x refl ∙ vector_is P.param m l

    some_depth : 1 ≤ W.depth
    some_depth = omega arith

    pub fork_wires_are : ForkWires W P R
    fork_wires_are = record {
      innermost = rest_wire W.depth some_depth 8 "innermost" (two minus (name "depth") (sized W.depth 1)) refl;
      around = rest_wire W.depth some_depth 9 "around" (two minus (name "innermost") (sized W.depth 1)) refl;
      reads_fork = rest_wire W.depth some_depth 10 "reads_fork"
          (pick (logic both (name "closes") (none (name "fresh"))) (name "around") (name "innermost")) refl;
      keeps_at = rest_wire W.depth some_depth 11 "keeps_at" (pick (name "opens") (name "depth") (name "innermost")) refl;
      saved_top = rest_wire W.place enough.some_place 12 "saved_top" (pick (name "above") (name "next_top") (name "base")) refl;
      depth_wide = reg_is W.depth some_depth "depth"
          (in_store rows z start n b (reg (vector_wide W.depth) "depth")
          (stands_at (store_registers W) 10 (reg (vector_wide W.depth) "depth") refl));
      innermost_wide = rest_wide W.depth some_depth 8 "innermost" (two minus (name "depth") (sized W.depth 1)) refl;
      saved_wide = rest_wide W.place enough.some_place 12 "saved_top" (pick (name "above") (name "next_top") (name "base")) refl;
      fork_wide = place_wires_are.fork_wide;
      kept_wide = kept_wide;
      fresh_wide = declares.width (reg one "fresh")
          (in_store rows z start n b (reg one "fresh") (stands_at (store_registers W) 13 (reg one "fresh") refl)) "fresh"
          refl;
      forks = forks_are;
      answers = answers_are;
      boxes = open_low;
    }

    pub cell_wires_are : CellWires W P R
    cell_wires_are = record { names = word_low; cells = cells_are.0; words = cells_are.1 }

  -- widths are enough
  pub enough_is : Wide W
  enough_is = record { place = bits_fit z.cells z.cells (omega arith); some_place = bits_some z.cells }

  pub deep_is : WideForks W
  deep_is = record { depth = bits_fit z.forks z.forks (omega arith); some_depth = bits_some z.forks }
