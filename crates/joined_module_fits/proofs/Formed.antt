-- The module of a table that fits is one that the standard takes; and the empty table fits.
use Rattle.std.proofs.Common.{◌≡◌, ◌<◌, ◌≤◌, ◌+◌, ◌-◌, ◌*◌, ◌^◌, ◌++◌, ℕ, zero, suc, max, Bool, true, false, not, ◌&&◌, List, [], ◌∷◌, refl}
use Rattle.std.proofs.Common.{ap, subst, sym, ◌∙◌, arith, length}
use Rattle.std.specs.Prelude.{nat_lt, nat_le}
use Rattle.std.proofs.lemmas.Bool.{and_parts, and_from, lt-ltb, ltb-true, le-leb}
use Prim.Native.String.{String}
use Rattle.joined_module_fits.proofs.Limits.{front, all_of, known, limits_known, whole, mixed, sig_wide, box_wide, looked_wide}
use Rattle.verilog_tree.specs.Tree.{settles, count, Expr, sized, name, part, cat, Item, Stmt, seq, cases, Arms, arm}
use Rattle.joined_module_fits.proofs.Ordered.{behind, layers_order, layers_ports}
use Rattle.joined_core.specs.Circuit.{Room}
use Rattle.verilog_tree.specs.Meaning.{param_in}
use Rattle.verilog_tree.specs.WellFormed.{Limits, limits, small, told, items_fit, expr_fits, stmt_fits, arms_fit, bare, WellFormed}
use Rattle.verilog_tree.specs.WellFormed.{ports_first, items_ok, in_order}
use Rattle.circuit_module.specs.Fixed.{block}
use Rattle.joined_module.specs.Names.{sig_name, box_name, next_sig_name, next_box_name, word_name, fork_box_name, open_box_name}
use Rattle.joined_module.specs.Names.{new_word_name}
use Rattle.joined_module.specs.Rows.{Sees, sees_nothing, sees_tag, sees_zero, ModuleRow}
use Rattle.joined_module.specs.Fields.{Field, row_fields, Slot, all_slots, slot_fields, tag_bits, first_input, second_input, input_expr}
use Rattle.joined_module.specs.Fields.{box_slot, open_slot, word_slot, looked_slot, sig_count, box_count, fork_count, word_count, tag_seen}
use Rattle.joined_module.specs.Fields.{seen_tag, operand_field, literal_field, count_field, sig_slot, slots_from, bits_upto}
use Rattle.joined_module.specs.Ports.{held_sets}
use Rattle.joined_module.specs.Unit.{operand_wires_of, unit_wires, unit_stmt, unit_registers}
use Rattle.joined_module.specs.Module.{Widths, widths, cell_width, fork_width, store_registers, read_said, place_wires, slot_wires}
use Rattle.joined_module.specs.Module.{find_stmt, rest_wires, idle_sets, key_arms, fetch_sets, fetch_stmt, list_sets, open_stmt, fork_stmt}
use Rattle.joined_module.specs.Module.{no_room_expr, value_stmt, count_stmt, act_stmt, go_stmt, reset_stmt, zero_stmt_of, joined_clock_stmt}
use Rattle.joined_module.specs.Module.{pointers_above, pointers_vector, has_product, found_rows, module_items}
use Rattle.joined_module.specs.Fits.{fields_small}
use Rattle.joined_found.specs.Found.{Each}
use Rattle.joined_found.specs.Laws.{FieldFits}
use Rattle.joined_found.proofs.Fits.{fields_fit, seen_fits}
use Rattle.joined_module_fits.proofs.Found.{RowSets, TagFits, RowsFit, key_arms_are}
use Rattle.joined_module_fits.proofs.Exprs.{AllWithin, slots_within, positive}
use Rattle.joined_module_fits.proofs.States.{at_both, Asked, P3, P4, P10, P11, P15, P16, layers, layers_are}
use Rattle.joined_module_fits.proofs.Fits.{small_less, small_bits, told_small, told_bits, under, fit_append, PointersFit, slot_fits}
use Rattle.joined_module_fits.proofs.Fits.{input_fits, Small, FieldBits, bits_of, slot_fields_fit, slot_founds_fit, regs_fit, args_fit}
use Rattle.joined_module_fits.proofs.Fits.{held_fit, parts_fit, block_fits, lists_fit, helds_fit, fetches_fit, small_of}
use Rattle.circuit_module.proofs.Sizes.{few_bits}
use Rattle.joined_module_fits.specs.Laws.{JoinedWellFormed, EmptyFits}
use Rattle.joined_module_fits.proofs.Clock.{layers_right}

-- ---- numbers of fields

-- those of one row
abbrev pub Numbers : List Field → ModuleRow → Type 0
Numbers [] r = Unit {0}
Numbers (f ∷ fs) r = ((small f.bits ≡ true) × (told (f.at r) ≡ true)) × Numbers fs r

-- those where there is no row
abbrev Idle : List Field → Type 0
Idle [] = Unit {0}
Idle (f ∷ fs) = ((small f.bits ≡ true) × (told f.idle ≡ true)) × Idle fs

idle_fit : (rows : List ModuleRow) (fs : List Field) → fields_small fs ≡ true → Each (FieldFits rows) fs → Idle fs
idle_fit rows [] h e = tt
idle_fit rows (f ∷ fs) h e =
    let (a, b) = and_parts _ _ h in
    ((small_bits f.bits a, told_bits f.idle f.bits a e.0.0), idle_fit rows fs b e.1)

abbrev pub AllNumbers : List Field → List ModuleRow → Type 0
AllNumbers fs [] = Unit {0}
AllNumbers fs (r ∷ rs) = Numbers fs r × AllNumbers fs rs

abbrev Below : List ModuleRow → Field → Type 0
Below rs f = Each (λ r. f.at r < 2 ^ f.bits) rs

first_fit : (r : ModuleRow) (rs : List ModuleRow) (fs : List Field) → fields_small fs ≡ true → Each (Below (r ∷ rs)) fs → Numbers fs r
first_fit r rs [] h e = tt
first_fit r rs (f ∷ fs) h e =
    let (a, b) = and_parts _ _ h in
    ((small_bits f.bits a, told_bits (f.at r) f.bits a e.0.0), first_fit r rs fs b e.1)

others : (r : ModuleRow) (rs : List ModuleRow) (fs : List Field) → Each (Below (r ∷ rs)) fs → Each (Below rs) fs
others r rs [] e = tt
others r rs (f ∷ fs) e = (e.0.1, others r rs fs e.1)

all_fit : (rs : List ModuleRow) (fs : List Field) → fields_small fs ≡ true → Each (Below rs) fs → AllNumbers fs rs
all_fit [] fs h e = tt
all_fit (r ∷ rs) fs h e = (first_fit r rs fs h e, all_fit rs fs h (others r rs fs e))

below_of : (rows : List ModuleRow) (fs : List Field) → Each (FieldFits rows) fs → Each (Below rows) fs
below_of rows [] e = tt
below_of rows (f ∷ fs) e = (e.0.1, below_of rows fs e.1)

-- ---- the block that finds

module _ (L : Limits) where
  abbrev S : Stmt → Type 0
  S s = stmt_fits L s ≡ true

  abbrev A : Arms → Type 0
  A a = arms_fit L a ≡ true

  abbrev N : ℕ → ℕ → Type 0
  N w n = (small w && told n) ≡ true

  after : (s t : Stmt) → S s → S t → S (seq s t)
  after s t h k = and_from _ _ h k

  one_arm : (w n : ℕ) → N w n → (s : Stmt) → S s → (arms : Arms) → A arms → A (arm (sized w n ∷ []) s [] arms)
  one_arm w n l s h arms k = and_from _ _ (and_from _ _ l refl) (and_from _ _ h k)

  row_sets : (fs : List Field) (r : ModuleRow) → Numbers fs r → RowSets S A N refl after after after refl one_arm fs r
  row_sets [] r h = tt
  row_sets (f ∷ fs) r h = (and_from _ _ h.0.0 h.0.1, row_sets fs r h.1)

  idle_fits : (fs : List Field) → Idle fs → stmt_fits L (block (idle_sets fs)) ≡ true
  idle_fits [] h = refl
  idle_fits (f ∷ []) h = and_from _ _ h.0.0 h.0.1
  idle_fits (f ∷ g ∷ fs) h = and_from _ _ (and_from _ _ h.0.0 h.0.1) (idle_fits (g ∷ fs) h.1)

  module _ (t : ℕ) (ht : small t ≡ true) (lt : nat_le t 64 ≡ true) (looked : L.bounds "looked" (count (t - 1)) (count 0) ≡ true) where
    by_tag : (arms : Arms) → A arms → S (cases (part "looked" (count (t - 1)) (count 0)) arms)
    by_tag arms h = and_from _ _ looked h

    abbrev Tagged : List ModuleRow → Type 0
    Tagged rs = Each (λ r. seen_tag r < 2 ^ t) rs

    tag_fits : (fs : List Field) (r : ModuleRow) (e : Sees) → r.sees ≡ e → seen_tag r < 2 ^ t →
        TagFits S A N refl after after after refl one_arm t fs by_tag e
    tag_fits fs r sees_nothing q l = tt
    tag_fits fs r (sees_tag n) q l =
        let z : seen_tag r ≡ n = ap tag_seen q in
        and_from _ _ ht (told_bits n t lt (omega (arith, l, z)))
    tag_fits fs r (sees_zero b) q l = tt

    rows_fit : (fs : List Field) (rs : List ModuleRow) → AllNumbers fs rs → Tagged rs →
        RowsFit S A N refl after after after refl one_arm t fs by_tag rs
    rows_fit fs [] h g = tt
    rows_fit fs (r ∷ rs) h g = ((row_sets fs r h.0, tag_fits fs r r.sees refl g.0), rows_fit fs rs h.1 g.1)

    pub find_fits : (W : Widths) → W.tag ≡ t → small W.key ≡ true → (rows : List ModuleRow) (fs : List Field) → small (length rows) ≡ true →
        Idle fs → AllNumbers fs rows → Tagged rows → stmt_fits L (find_stmt W rows fs) ≡ true
    find_fits W e hk rows fs few i h g = and_from _ _ (idle_fits fs i)
        (subst (λ u. arms_fit L (key_arms W.key u fs rows 0 (length rows)) ≡ true) (sym e)
        (key_arms_are S A N refl after after after refl one_arm t fs by_tag W.key rows (rows_fit fs rows h g) (length rows)
        (λ k l. and_from _ _ hk (told_small k (small_less k (length rows) (omega (arith, l)) few))) 0 (length rows) (omega arith)))

-- ---- vectors of pointers

above_bare : (q : String → Bool) (x : ℕ → String) (i n : ℕ) (e : Expr) → bare q e ≡ false → bare q (pointers_above x i n e) ≡ false
above_bare q x i zero e h = h
above_bare q x i (suc n) e h = above_bare q x (suc i) n (cat (name (x i)) e) refl

above_fits : (L : Limits) (x : ℕ → String) (i n : ℕ) (e : Expr) → bare L.is_size e ≡ false → expr_fits L e ≡ true →
    expr_fits L (pointers_above x i n e) ≡ true
above_fits L x i zero e h k = k
above_fits L x i (suc n) e h k = above_fits L x (suc i) n (cat (name (x i)) e) refl (and_from _ _ (ap not h) k)

vector_fits : (L : Limits) (x : ℕ → String) (n : ℕ) → expr_fits L (pointers_vector x n) ≡ true
vector_fits L x zero = refl
vector_fits L x (suc n) = above_fits L x 1 n (name (x 0)) refl refl

-- ---- what names nothing of a table but its widths, with a product and without

module _ (rows : List ModuleRow) (z : Room) (start n : ℕ) where
  unit_fits : (b : Bool) (A : Asked rows z start n) → stmt_fits (known rows z start n b A) (unit_stmt b) ≡ true
  unit_fits true A = refl
  unit_fits false A = refl

  count_fits : (b : Bool) (A : Asked rows z start n) → stmt_fits (known rows z start n b A) count_stmt ≡ true
  count_fits true A = refl
  count_fits false A = refl

  zero_fits : (b : Bool) (A : Asked rows z start n) → stmt_fits (known rows z start n b A) (zero_stmt_of b) ≡ true
  zero_fits true A = refl
  zero_fits false A = refl

  value_fits : (b : Bool) (A : Asked rows z start n) → stmt_fits (known rows z start n b A) (value_stmt b) ≡ true
  value_fits true A = refl
  value_fits false A = refl

  wires_fit : (b : Bool) (A : Asked rows z start n) → items_fit (known rows z start n b A) (unit_wires b) ≡ true
  wires_fit true A = refl
  wires_fit false A = refl

  registers_fit : (b : Bool) (A : Asked rows z start n) → items_fit (known rows z start n b A) (unit_registers b ++ read_said) ≡ true
  registers_fit true A = refl
  registers_fit false A = refl

  module _ (d1 : small ((widths rows z).depth - 1) ≡ true) (d : small (widths rows z).depth ≡ true)
      (p1 : small ((widths rows z).place - 1) ≡ true) where
    rests_fit : (b : Bool) (A : Asked rows z start n) → items_fit (known rows z start n b A) (rest_wires (widths rows z)) ≡ true
    rests_fit true A = and_from _ _ (and_from _ _ d1 (and_from _ _ d refl)) (and_from _ _ (and_from _ _ d1 (and_from _ _ d refl))
        (and_from _ _ (and_from _ _ d1 refl) (and_from _ _ (and_from _ _ d1 refl) (and_from _ _ (and_from _ _ p1 refl) refl))))
    rests_fit false A = and_from _ _ (and_from _ _ d1 (and_from _ _ d refl)) (and_from _ _ (and_from _ _ d1 (and_from _ _ d refl))
        (and_from _ _ (and_from _ _ d1 refl) (and_from _ _ (and_from _ _ d1 refl) (and_from _ _ (and_from _ _ p1 refl) refl))))

operand_wires_fit : (L : Limits) → L.fits (count 64) ≡ true → (x y : Expr) → expr_fits L x ≡ true → expr_fits L y ≡ true → (b : Bool) →
    items_fit L (operand_wires_of b x y) ≡ true
operand_wires_fit L h x y f g =
    let k = and_from _ _ (and_from _ _ h f) (and_from _ true (and_from _ _ h g) refl) in
    at_both (λ b. items_fit L (operand_wires_of b x y) ≡ true) k k

-- ---- the layers

abbrev layers_fit : Limits → List (Bool × List Item) → Bool
layers_fit L [] = true
layers_fit L (l ∷ ls) = items_fit L l.1 && layers_fit L ls

fit_layers : (L : Limits) (js : List Item) (ls : List (Bool × List Item)) → layers_fit L ls ≡ true → items_fit L js ≡ true →
    items_fit L (all_of ls js) ≡ true
fit_layers L js [] h k = k
fit_layers L js (l ∷ ls) h k =
    let (a, b) = and_parts (items_fit L l.1) (layers_fit L ls) h in fit_append L l.1 (all_of ls js) a (fit_layers L js ls b k)

module _ (rows : List ModuleRow) (z : Room) (start n : ℕ) (b : Bool) (H : Small rows z start n) where
  abbrev A0 : Asked rows z start n
  A0 = H.asked

  abbrev V : Widths
  V = widths rows z

  abbrev fs : List Field
  fs = row_fields rows

  abbrev w : ℕ
  w = V.place + V.tag

  abbrev K : Limits
  K = known rows z start n b A0

  abbrev all : List Item
  all = whole rows z start n b A0

  -- ---- numbers

  place_some : 0 < V.place
  place_some = ltb-true 0 V.place (positive z.cells)

  w_small : small w ≡ true
  w_small = H.pointer

  w1_small : small (w - 1) ≡ true
  w1_small = small_less (w - 1) w (under w) w_small

  place_small : small V.place ≡ true
  place_small = small_less V.place w (omega arith) w_small

  place1_small : small (V.place - 1) ≡ true
  place1_small = small_less (V.place - 1) V.place (under V.place) place_small

  tag_small : small V.tag ≡ true
  tag_small = small_less V.tag w (omega arith) w_small

  depth1_small : small (V.depth - 1) ≡ true
  depth1_small = small_less (V.depth - 1) V.depth (under V.depth) H.depth

  cell1_small : small (cell_width V - 1) ≡ true
  cell1_small = small_less (cell_width V - 1) (cell_width V) (under (cell_width V)) H.cell

  fork1_small : small (fork_width V - 1) ≡ true
  fork1_small = small_less (fork_width V - 1) (fork_width V) (under (fork_width V)) H.fork

  words_some : (k : ℕ) → small k ≡ true → (nat_lt 0 (max 1 k) && small (max 1 k)) ≡ true
  words_some k h =
      let l = ltb-true k (2 ^ 31) h in
      and_from _ _ (lt-ltb 0 (max 1 k) (omega arith)) (lt-ltb (max 1 k) (2 ^ 31) (omega (arith, l)))

  -- the bits of each field
  B : FieldBits rows
  B = bits_of rows H.fields

  -- ---- pointers

  bounds_of : (v : String) (C h l : ℕ) → (mixed rows z start n b A0).width v ≡ C → h < C → l ≤ h → small h ≡ true → small l ≡ true →
      K.bounds v (count h) (count l) ≡ true
  bounds_of v C h l e p q s t = and_from _ _ (and_from _ _ (lt-ltb h ((mixed rows z start n b A0).width v) (omega (arith, e, p)))
      (le-leb l h q)) (and_from _ _ s t)

  pointers : PointersFit V K V.place V.tag
  pointers = record {
    sig = λ l. bounds_of (sig_name 0) (suc (w - 1)) (w - 1) V.tag (sig_wide rows z start n b A0 (param_in all) l) (omega arith)
        (let k = place_some in omega (arith, k)) w1_small tag_small;
    box = λ l. bounds_of (box_name 0) (suc (w - 1)) (w - 1) V.tag (box_wide rows z start n b A0 (param_in all) l) (omega arith)
        (let k = place_some in omega (arith, k)) w1_small tag_small;
    plain = λ x. refl;
  }

  slots_fit : (ss : List Slot) → fields_small (slot_fields (tag_bits rows) rows ss) ≡ true → AllWithin V n rows H.within ss →
      items_fit K (slot_wires V.place V.tag rows ss) ≡ true
  slots_fit [] h k = refl
  slots_fit (s ∷ ss) h k =
      let (a, c) = and_parts _ _ h in
      and_from _ _ (and_from _ _ w1_small (slot_fits V K V.place V.tag pointers rows s H.rows_few a k.0))
      (slots_fit ss (and_parts _ _ c).1 k.1)

  -- ---- the front

  fits_is : (k : ℕ) → K.fits (count k) ≡ small k
  fits_is k = refl

  vector_small : (k : ℕ) → nat_le k 64 ≡ true → small (k - 1) ≡ true
  vector_small k h = small_less (k - 1) k (under k) (small_bits k h)

  said_fit : items_fit K (P3 V start rows n b) ≡ true
  said_fit = and_from _ _ (vector_small V.key B.key) (and_from _ _ (vector_small (count_field rows).bits B.moves) refl)

  choices_fit : items_fit K (P4 V start rows n b) ≡ true
  choices_fit = and_from _ _ (vector_small (operand_field rows first_input).bits B.first_by)
      (and_from _ _ (vector_small (literal_field rows first_input).bits B.first_number)
      (and_from _ _ (vector_small (operand_field rows second_input).bits B.second_by)
      (and_from _ _ (vector_small (literal_field rows second_input).bits B.second_number)
      (slot_fields_fit K fits_is (tag_bits rows) rows (all_slots rows) B.slots))))

  founds_fit : items_fit K (P15 V start rows n b) ≡ true
  founds_fit = and_from _ _ (vector_small V.key B.key) (and_from _ _ (vector_small (count_field rows).bits B.moves)
      (and_from _ _ (vector_small (operand_field rows first_input).bits B.first_by)
      (and_from _ _ (vector_small (literal_field rows first_input).bits B.first_number)
      (and_from _ _ (vector_small (operand_field rows second_input).bits B.second_by)
      (and_from _ _ (vector_small (literal_field rows second_input).bits B.second_number)
      (slot_founds_fit K fits_is (tag_bits rows) rows (all_slots rows) B.slots))))))

  store_fit : items_fit K (store_registers V) ≡ true
  store_fit = and_from _ _ (and_from _ _ cell1_small (words_some V.cells H.cells)) (and_from _ _ place1_small (and_from _ _ cell1_small
      (and_from _ _ (and_from _ _ fork1_small (words_some V.forks H.forks)) (and_from _ _ (words_some V.forks H.forks)
      (and_from _ _ depth1_small (and_from _ _ fork1_small refl))))))

  words_fit : items_fit K (P10 V start rows n b) ≡ true
  words_fit = parts_fit K fits_is w w_small "cell_has" (cell_width V) H.cell
      (λ h l p q s t. bounds_of "cell_has" (suc (cell_width V - 1)) h l refl (omega (arith, p)) q s t)
      (let k = place_some in omega (arith, k)) word_name 0 0 V.words (most (w * V.words))
    where
      most : (k : ℕ) → 0 + k ≤ max 1 k
      most k = omega arith

  forks_fit : items_fit K (P11 V start rows n b) ≡ true
  forks_fit = parts_fit K fits_is w w_small "fork_has" (fork_width V) H.fork
      (λ h l p q s t. bounds_of "fork_has" (suc (fork_width V - 1)) h l refl (omega (arith, p)) q s t)
      (let k = place_some in omega (arith, k)) fork_box_name V.place 0 V.saved (same (fork_width V))
    where
      same : (k : ℕ) → k ≤ k
      same k = omega arith

  places_fit : items_fit K (place_wires V) ≡ true
  places_fit =
      let k = place_some in
      and_from _ _ (and_from _ _ place1_small (bounds_of "fork_has" (suc (fork_width V - 1)) (V.place - 1) 0 refl
      (less V.place (w * V.saved) k) (omega arith) place1_small refl))
      (and_from _ _ (and_from _ _ place1_small refl) (and_from _ _ (and_from _ _ place1_small refl) refl))
    where
      less : (p m : ℕ) → 0 < p → p - 1 < suc (p + m - 1)
      less p m l = omega (arith, l)

  goes_fit : items_fit K (P16 V start rows n b) ≡ true
  goes_fit =
      let l = H.start_low in
      and_from _ _ (and_from _ _ (vector_small V.key B.key) (and_from _ _ (and_from _ _ (small_bits V.key B.key)
      (told_bits start V.key B.key l)) refl)) refl

  find_item : stmt_fits K (find_stmt V rows fs) ≡ true
  find_item =
      let k = place_some in
      let e = fields_fit rows in
      find_fits K V.tag tag_small tag64
      (bounds_of "looked" (suc (w - 1)) (V.tag - 1) 0 (looked_wide rows z start n b A0 (param_in all)) (omega (arith, k)) (omega arith)
      (small_less (V.tag - 1) V.tag (under V.tag) tag_small) refl) V refl (small_bits V.key B.key) rows fs H.rows_few
      (idle_fit rows fs H.fields e) (all_fit rows fs H.fields (below_of rows fs e)) (seen_fits rows)
    where
      looked_tag : (ss : List Slot) → fields_small (slot_fields (tag_bits rows) rows ss) ≡ true → 0 < length ss → nat_le
          (tag_bits rows) 64 ≡ true
      looked_tag [] h l = absurd (omega (arith, l))
      looked_tag (s ∷ ss) h l = (and_parts _ _ (and_parts _ _ h).1).0

      some_slot : (xs ys : List Slot) → 0 < length ys → 0 < length (xs ++ ys)
      some_slot [] ys l = l
      some_slot (x ∷ xs) ys l = omega arith

      tag64 : nat_le V.tag 64 ≡ true
      tag64 = looked_tag (all_slots rows) B.slots (some_slot (slots_from sig_slot 0 (sig_count rows)) _
          (some_slot (slots_from box_slot 0 (box_count rows)) _ (some_slot (slots_from open_slot 0 (fork_count rows)) _
          (some_slot (slots_from word_slot 0 (word_count rows)) (looked_slot ∷ []) (omega arith)))))

  -- ---- the clock

  open_fits : stmt_fits K (open_stmt V) ≡ true
  open_fits = and_from _ _ (above_fits K open_box_name 0 V.saved (name "saved_top") refl refl) (and_from _ _ H.depth refl)

  fork_fits : stmt_fits K (fork_stmt V) ≡ true
  fork_fits = and_from _ true (and_from _ true open_fits refl) refl

  room_fits : expr_fits K (no_room_expr V) ≡ true
  room_fits = and_from _ _ (and_from _ _ place_small (told_small V.cells H.cells)) (and_from _ _ H.depth (told_small V.forks H.forks))

  act_fits : stmt_fits K (act_stmt V) ≡ true
  act_fits = and_from _ _ (block_fits K (list_sets sig_name next_sig_name 0 V.sigs) (lists_fit K sig_name next_sig_name 0 V.sigs))
      (and_from _ _ (block_fits K (list_sets box_name next_box_name 0 V.boxes) (lists_fit K box_name next_box_name 0 V.boxes))
      (and_from _ _ (and_from _ true (vector_fits K new_word_name V.words) refl) (and_from _ true room_fits refl)))

  go_fits : stmt_fits K (go_stmt V b) ≡ true
  go_fits = and_from _ _ fork_fits (and_from _ _ (value_fits rows z start n b A0) (and_from _ _ (count_fits rows z start n b A0)
      (and_from _ true (and_from _ true act_fits refl) refl)))

  reset_fits : stmt_fits K (reset_stmt n) ≡ true
  reset_fits = block_fits K (held_sets 0 n) (helds_fit K 0 n)

  fetch_fits : stmt_fits K (fetch_stmt V fs) ≡ true
  fetch_fits =
      let k = place_some in
      and_from _ _ (and_from _ _ (bounds_of "looked" (suc (w - 1)) (w - 1) V.tag (looked_wide rows z start n b A0 (param_in all))
      (omega arith) (omega (arith, k)) w1_small tag_small) (block_fits K (fetch_sets fs) (fetches_fit K fs))) refl

  clock_fits : stmt_fits K (joined_clock_stmt V fs n b) ≡ true
  clock_fits = and_from _ _ (unit_fits rows z start n b A0) (and_from _ _ (zero_fits rows z start n b A0) (and_from _ _ fetch_fits
      (and_from _ _ reset_fits go_fits)))

  -- ---- all of it

  behind_fits : items_fit K (behind b (input_expr rows first_input) (input_expr rows second_input) V fs n) ≡ true
  behind_fits =
      let x = input_expr rows first_input in
      let y = input_expr rows second_input in
      fit_append K (operand_wires_of b x y) _ (operand_wires_fit K refl x y
      (input_fits K rows first_input H.rows_few B.first_by B.first_number)
      (input_fits K rows second_input H.rows_few B.second_by B.second_number) b)
      (fit_append K (unit_wires b ++ rest_wires V) _ (fit_append K (unit_wires b) (rest_wires V) (wires_fit rows z start n b A0)
      (rests_fit rows z start n depth1_small H.depth place1_small b A0)) (and_from (stmt_fits K
      (joined_clock_stmt V fs n b)) true clock_fits refl))

  pub whole_fits : items_fit (limits all) all ≡ true
  whole_fits = ap (λ L. items_fit L all) (limits_known rows z start n b A0)
      ∙ fit_layers K (settles (find_stmt V rows fs) ∷ behind b (input_expr rows first_input) (input_expr rows second_input) V fs n)
      (front rows z start n b A0) (and_from _ _ (args_fit K fits_is 0 n) (and_from _ _ said_fit (and_from _ _ choices_fit
      (and_from _ _ (regs_fit K fits_is w w_small sig_name 0 V.sigs) (and_from _ _ (regs_fit K fits_is w w_small box_name 0 V.boxes)
      (and_from _ _ (held_fit K fits_is 0 n) (and_from _ _ (fit_append K (store_registers V) (unit_registers b ++ read_said) store_fit
      (registers_fit rows z start n b A0)) (and_from _ _ words_fit (and_from _ _ forks_fit (and_from _ _ places_fit
      (and_from _ _ (slots_fit (all_slots rows) B.slots (slots_within V n rows H.within)) (and_from _ _ founds_fit
      (and_from _ true goes_fit refl))))))))))))) (and_from (stmt_fits K (find_stmt V rows fs)) _ find_item behind_fits)

formed : (is : List Item) → ports_first is ≡ true → items_ok [] [] is ≡ true → in_order is ≡ true → items_fit (limits is) is ≡ true →
    WellFormed is ≡ true
formed is p o q f = and_from _ _ (and_from _ _ p o) (and_from _ _ q f)

rows_formed : (rows : List ModuleRow) (z : Room) (start n : ℕ) (b : Bool) → Small rows z start n →
    WellFormed (module_items (widths rows z) start rows (row_fields rows) n b) ≡ true
rows_formed rows z start n b H =
    let A = H.asked in
    subst (λ is. WellFormed is ≡ true) (sym (layers_are (widths rows z) start rows n b))
    (formed (layers (widths rows z) start rows n b) (layers_ports rows z start n b A) (layers_right rows z start n b A)
    (layers_order rows z start n b A) (whole_fits rows z start n b H))

pub joined_well_formed : JoinedWellFormed
joined_well_formed T z n h =
    let rows = found_rows T.rows in rows_formed rows z T.start n (has_product rows) (small_of rows z T.start n h)

-- numbers up to one that is small have few bits
few : (c : ℕ) → c < 2 ^ 31 → bits_upto c ≤ 31
few c l = let k = few_bits (suc c) 31 (omega (arith, l)) in omega (arith, k)

less : (k : ℕ) → k < 64 → small k ≡ true
less k l = lt-ltb k (2 ^ 31) (omega (arith, l))

-- the table without rows fits where the room and the ports are small
pub empty_fits : EmptyFits
empty_fits z n c f p =
    let place = bits_upto z.cells in
    let k = few z.cells c in
    let d = few z.forks f in
    let ports = lt-ltb n (2 ^ 31) p in
    let cells = lt-ltb z.cells (2 ^ 31) c in
    let forks = lt-ltb z.forks (2 ^ 31) f in
    let counts = and_from _ _ (and_from _ _ (and_from _ _ ports refl) (and_from _ _ cells forks)) refl in
    let bits = and_from _ _ (less (place + 1) (omega (arith, k))) (less (bits_upto z.forks) (omega (arith, d))) in
    let stores = and_from _ _ (less (max 1 ((place + 1) * 0)) (omega arith)) (less (place + (place + 1) * 0) (omega (arith, k))) in
    and_from _ _ (and_from _ _ counts (and_from _ _ bits stores)) refl
