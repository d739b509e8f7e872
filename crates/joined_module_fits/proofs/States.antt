-- What is declared after each layer of the module, what is known there, and that each layer but the clock's is right.
use Rattle.std.proofs.Common.{◌≡◌, ◌+◌, ◌-◌, ◌++◌, ℕ, zero, suc, Bool, true, false, List, [], ◌∷◌, refl, ap, ◌∙◌, ◌<◌, ◌≤◌, ◌^◌, not, subst}
use Rattle.std.proofs.Common.{arith, ⊎_elim}
use Rattle.std.proofs.lemmas.List.{append_assoc}
use Rattle.verilog_tree.specs.Tree.{count, sized, name, pick, upto, Item, wire, settles, num, Expr, one, input, reg, clocked}
use Rattle.joined_module.specs.Names.{sig_name, box_name, word_name, fork_box_name, arg_name, held_name, by_name, tag_name}
use Rattle.joined_module.specs.Rows.{ModuleRow}
use Rattle.joined_module.specs.Fields.{Field, all_slots, row_fields, first_input, second_input, input_expr, Slot, slots_from, sig_slot}
use Rattle.joined_module.specs.Fields.{box_slot, open_slot, word_slot, looked_slot, slot_fields, tag_bits, sig_count, box_count, fork_count}
use Rattle.joined_module.specs.Fields.{word_count, literal_field}
use Rattle.joined_module.specs.Ports.{arg_inputs, held_regs}
use Rattle.joined_module.specs.Unit.{unit_registers, operand_wires_of, unit_wires}
use Rattle.joined_module.specs.Module.{Widths, joined_ports, ports_said, field_registers, pointer_registers, lists_said, store_registers}
use Rattle.joined_module.specs.Module.{pointer_parts, read_said, place_wires, slot_wires, find_said, found_registers, find_stmt, find_items}
use Rattle.joined_module.specs.Module.{numbers_said, rest_wires, clock_items, module_items, found_items, last_items, widths}
use Rattle.joined_module_fits.proofs.Counted.{choice_fields, args_group, args_fine, held_group, held_fine, regs_group, regs_fine}
use Rattle.joined_module_fits.proofs.Counted.{parts_group, parts_fine, slots_group, choices_group, founds_group}
use Rattle.std.specs.Prelude.{nat_lt, nat_le}
use Rattle.std.proofs.lemmas.Bool.{and_parts, and_from, cases_eq, cases_lt}
use Prim.Native.String.{String}
use Rattle.joined_core.specs.Circuit.{Room}
use Rattle.verilog_tree.specs.WellFormed.{Kind, Entry, an_input, a_register, a_wire, of_kind, vector, selects, declare, expr_ok, item_ok}
use Rattle.verilog_tree.specs.WellFormed.{items_ok, all_declared, taken, sets_first}
use Rattle.joined_module.specs.Fits.{each_within}
use Rattle.joined_module_fits.proofs.Names.{own, sigs, boxes, words, fork_boxes}
use Rattle.joined_module_fits.proofs.Own.{below, own_items, own_ok, items_append, all_driven}
use Rattle.joined_module_fits.proofs.Groups.{State, no_state, knows, own_step, group_step, group_ok, Counted, AllKnown, AllNames, names_of}
use Rattle.joined_module_fits.proofs.Groups.{all_fine, all_counted, expr_grows}
use Rattle.joined_module_fits.proofs.Exprs.{positive, Pointers, Operands, slot_ok, input_ok, AllWithin, slots_within, first_within}
use Rattle.joined_module_fits.proofs.Exprs.{second_within}
use Rattle.joined_module_fits.proofs.Found.{fields_wide, find_item_ok, tag_positive, key_positive}

-- ---- the layers

-- lists one behind the other
abbrev pub chain : List (List Item) → List Item → List Item
chain [] js = js
chain (is ∷ iss) js = is ++ chain iss js

pub chain_append : (iss : List (List Item)) (js ks : List Item) → chain iss js ++ ks ≡ chain iss (js ++ ks)
chain_append [] js ks = refl
chain_append (is ∷ iss) js ks = append_assoc is (chain iss js) ks ∙ ap (λ l. is ++ l) (chain_append iss js ks)

-- so many in front
abbrev pub firsts : ℕ → List Field → List Field
firsts zero fs = []
firsts (suc n) [] = []
firsts (suc n) (f ∷ fs) = f ∷ firsts n fs

-- the registers of the flags, and of the other fields that each table has
abbrev pub flag_fields : List ModuleRow → List Item
flag_fields rows = field_registers (firsts 18 (row_fields rows))

abbrev pub layers : Widths → ℕ → List ModuleRow → ℕ → Bool → List Item
layers W start rows n b =
    joined_ports ++ (arg_inputs 0 n ++ ((ports_said ++ flag_fields rows) ++ (field_registers (choice_fields rows) ++ (lists_said ++
    (pointer_registers (W.place + W.tag) sig_name 0 W.sigs ++ (pointer_registers (W.place + W.tag) box_name 0 W.boxes ++
    (held_regs 0 n ++ ((store_registers W ++ (unit_registers b ++ read_said)) ++
    (pointer_parts (W.place + W.tag) "cell_has" word_name 0 0 W.words ++
    (pointer_parts (W.place + W.tag) "fork_has" fork_box_name W.place 0 W.saved ++ (place_wires W ++
    (slot_wires W.place W.tag rows (all_slots rows) ++ (find_said ++ (found_registers (row_fields rows) ++
    (wire (upto (count (W.key - 1))) "goes" (pick (name "rst") (sized W.key start) (name "to")) ∷ [] ++
    (settles (find_stmt W rows (row_fields rows)) ∷ [] ++ (numbers_said ++
    (operand_wires_of b (input_expr rows first_input) (input_expr rows second_input) ++ ((unit_wires b ++ rest_wires W) ++
    clock_items W (row_fields rows) n b)))))))))))))))))))

-- the module is its layers
pub layers_are : (W : Widths) (start : ℕ) (rows : List ModuleRow) (n : ℕ) (b : Bool) →
    module_items W start rows (row_fields rows) n b ≡ layers W start rows n b
layers_are W start rows n b =
    let fs = row_fields rows in
    let front = joined_ports ∷ arg_inputs 0 n ∷ ports_said ∷ field_registers fs ∷ lists_said ∷
    pointer_registers (W.place + W.tag) sig_name 0 W.sigs ∷ pointer_registers (W.place + W.tag) box_name 0 W.boxes ∷ held_regs 0 n ∷ [] in
    let middle = read_said ∷ pointer_parts (W.place + W.tag) "cell_has" word_name 0 0 W.words ∷
    pointer_parts (W.place + W.tag) "fork_has" fork_box_name W.place 0 W.saved ∷ place_wires W ∷
    slot_wires W.place W.tag rows (all_slots rows) ∷ find_said ∷ found_registers fs ∷ [] in
    chain_append front (store_registers W ++ unit_registers b) (found_items W start rows fs ++ last_items W rows fs n b)
    ∙ ap (λ l. chain front ((store_registers W ++ unit_registers b) ++ l)) (chain_append middle (find_items W start rows fs)
    (last_items W rows fs n b)) ∙ go b
  where
    go : (b : Bool) → chain (joined_ports ∷ arg_inputs 0 n ∷ ports_said ∷ field_registers (row_fields rows) ∷ lists_said ∷
        pointer_registers (W.place + W.tag) sig_name 0 W.sigs ∷ pointer_registers (W.place + W.tag) box_name 0 W.boxes ∷ held_regs 0 n ∷ [])
        ((store_registers W ++ unit_registers b) ++ chain (read_said ∷ pointer_parts (W.place + W.tag) "cell_has" word_name 0 0 W.words ∷
        pointer_parts (W.place + W.tag) "fork_has" fork_box_name W.place 0 W.saved ∷ place_wires W ∷
        slot_wires W.place W.tag rows (all_slots rows) ∷ find_said ∷ found_registers (row_fields rows) ∷ [])
        (find_items W start rows (row_fields rows) ++ last_items W rows (row_fields rows) n b)) ≡ layers W start rows n b
    go true = refl
    go false = refl

-- ---- names of known groups

-- what holds of each number from i on that is one of so many
pub nth_of : (P : ℕ → Type 0) (Q : ℕ → ℕ → Type 0) → ((i n : ℕ) → Q i (suc n) → P i × Q (suc i) n) → (j i n : ℕ) → Q i n → i ≤ j →
    j < i + n → P j
nth_of P Q f j i zero h l m = absurd (omega (arith, l, m))
nth_of P Q f j i (suc n) h l m = ⊎_elim (λ (e : i ≡ j). subst P e (f i n h).0)
    (λ d. nth_of P Q f j (suc i) n (f i n h).1 (⊎_elim (λ k. k) (λ k. absurd (d (omega (arith, l, k)))) (cases_lt i j)) (omega (arith, m)))
    (cases_eq i j)

module _ (E : List Entry) where
  -- a name is of a kind
  abbrev pub Known : String → Kind → Type 0
  Known x k = (p : Kind → Bool) → of_kind p E x ≡ p k

  pub reg_known : (w : ℕ) (nm : ℕ → String) (n : ℕ) → AllKnown E (pointer_registers w nm 0 n) → (j : ℕ) → j < n → Known (nm j) a_register
  reg_known w nm n h j l =
      nth_of (λ j. Known (nm j) a_register) (λ i n. AllKnown E (pointer_registers w nm i n)) (λ i n h. h) j 0 n h (omega arith)
      (omega (arith, l))

  part_known : (w : ℕ) (v : String) (nm : ℕ → String) (l n : ℕ) → AllKnown E (pointer_parts w v nm l 0 n) → (j : ℕ) → j < n →
      Known (nm j) a_wire
  part_known w v nm l n h j m =
      nth_of (λ j. Known (nm j) a_wire) (λ i n. (l : ℕ) × AllKnown E (pointer_parts w v nm l i n)) (λ i n h. (h.1.0, (h.0 + w, h.1.1)))
      j 0 n (l, h) (omega arith) (omega (arith, m))

  pub held_known : (n : ℕ) → AllKnown E (held_regs 0 n) → (j : ℕ) → j < n → Known (held_name j) a_register
  held_known n h j l = nth_of (λ j. Known (held_name j) a_register) (λ i n. AllKnown E (held_regs i n)) (λ i n h. h) j 0 n h (omega arith)
      (omega (arith, l))

  pub arg_known : (n : ℕ) → AllKnown E (arg_inputs 0 n) → (j : ℕ) → j < n → Known (arg_name j) an_input
  arg_known n h j l = nth_of (λ j. Known (arg_name j) an_input) (λ i n. AllKnown E (arg_inputs i n)) (λ i n h. h) j 0 n h (omega arith)
      (omega (arith, l))

  -- wires of slots
  pub slot_known : (p t : ℕ) (rows : List ModuleRow) (f : ℕ → Slot) (n : ℕ) → AllKnown E (slot_wires p t rows (slots_from f 0 n)) →
      (j : ℕ) → j < n → Known (f j).title a_wire
  slot_known p t rows f n h j l =
      nth_of (λ j. Known (f j).title a_wire) (λ i n. AllKnown E (slot_wires p t rows (slots_from f i n))) (λ i n h. h) j 0 n h
      (omega arith) (omega (arith, l))

  -- of slots one behind the other
  split_known : (p t : ℕ) (rows : List ModuleRow) (xs ys : List Slot) → AllKnown E (slot_wires p t rows (xs ++ ys)) →
      AllKnown E (slot_wires p t rows xs) × AllKnown E (slot_wires p t rows ys)
  split_known p t rows [] ys h = (tt, h)
  split_known p t rows (x ∷ xs) ys h = let (a, b) = split_known p t rows xs ys h.1 in ((h.0, a), b)

-- both fields of each slot
abbrev pub SlotsKnown : List Entry → List Slot → Type 0
SlotsKnown E [] = Unit {0}
SlotsKnown E (s ∷ ss) = ((of_kind vector E (by_name s.title) ≡ true) × (of_kind vector E (tag_name s.title) ≡ true)) × SlotsKnown E ss

slots_known : (E : List Entry) (t : ℕ) (rows : List ModuleRow) (ss : List Slot) → AllKnown E (field_registers (slot_fields t rows ss)) →
    SlotsKnown E ss
slots_known E t rows [] h = tt
slots_known E t rows (s ∷ ss) h = ((h.0 vector, h.1.0 vector), slots_known E t rows ss h.1.1)

-- all slots are right
slots_fine : (W : Widths) (E : List Entry) → Pointers W E → (p t n : ℕ) (rows : List ModuleRow) (h : each_within W n rows ≡ true)
    (ss : List Slot) → SlotsKnown E ss → AllWithin W n rows h ss → all_fine E (slot_wires p t rows ss) ≡ true
slots_fine W E P p t n rows h [] k w = refl
slots_fine W E P p t n rows h (s ∷ ss) k w = and_from _ _
    (slot_ok W E P p t rows s k.0.0 k.0.1 w.0) (slots_fine W E P p t n rows h ss k.1 w.1)

-- items of which none is a block drive nothing
abbrev pub blockless : List Item → Bool
blockless [] = true
blockless (settles s ∷ is) = false
blockless (clocked s ∷ is) = false
blockless (i ∷ is) = blockless is

pub undriven : (ds : List String) (is : List Item) → blockless is ≡ true → all_driven ds is ≡ ds
undriven ds [] h = refl
undriven ds (settles s ∷ is) h = absurd cc
undriven ds (clocked s ∷ is) h = absurd cc
undriven ds (i ∷ is) h = undriven ds is h

step : (is js : List Item) (E : List Entry) (ds : List String) → blockless is ≡ true → items_ok E ds is ≡ true →
    items_ok (all_declared E is) ds js ≡ true → items_ok E ds (is ++ js) ≡ true
step is js E ds o h k = items_append is js E ds h (ap (λ ts. items_ok (all_declared E is) ts js) (undriven ds is o) ∙ k)

counted_blockless : (is : List Item) → all_counted is ≡ true → blockless is ≡ true
counted_blockless [] o = refl
counted_blockless (input w x ∷ is) o = counted_blockless is (and_parts _ _ o).1
counted_blockless (reg w x ∷ is) o = counted_blockless is o
counted_blockless (wire w x e ∷ is) o = counted_blockless is o
counted_blockless (i ∷ is) o = absurd cc

-- a group behind others is right
group_then : (ds : List String) (c d : ℕ) (is js : List Item) (E : List Entry) → below c E ≡ true → Counted c d is → all_fine E is ≡ true →
    items_ok (all_declared E is) ds js ≡ true → items_ok E ds (is ++ js) ≡ true
group_then ds c d is js E s g f h =
    step is js E ds (counted_blockless is g.counted) (group_ok ds c d is E s g.counted g.named g.distinct f) h

-- registers of vectors are right
width_vector : (E : List Entry) (rows : List ModuleRow) (ss : List Slot) → all_fine E (field_registers (slot_fields
    (tag_bits rows) rows ss)) ≡ true
width_vector E rows [] = refl
width_vector E rows (s ∷ ss) = width_vector E rows ss

fields_fine : (E : List Entry) (rows : List ModuleRow) → all_fine E (field_registers (choice_fields rows)) ≡ true
fields_fine E rows = width_vector E rows (all_slots rows)

founds_vector : (E : List Entry) (rows : List ModuleRow) (ss : List Slot) → all_fine E (found_registers (slot_fields
    (tag_bits rows) rows ss)) ≡ true
founds_vector E rows [] = refl
founds_vector E rows (s ∷ ss) = founds_vector E rows ss

founds_fine : (E : List Entry) (rows : List ModuleRow) → all_fine E (found_registers (row_fields rows)) ≡ true
founds_fine E rows = founds_vector E rows (all_slots rows)

-- ---- what is declared after so many layers

abbrev after : ℕ → List (List Item) → List Entry → List Entry
after zero iss E = E
after (suc k) [] E = E
after (suc k) (is ∷ iss) E = after k iss (all_declared E is)

-- the last of so many first
abbrev turned : ℕ → List (List Item) → List (List Item) → List (List Item)
turned zero iss G = G
turned (suc k) [] G = G
turned (suc k) (is ∷ iss) G = turned k iss (is ∷ G)

module _ (W : Widths) (start : ℕ) (rows : List ModuleRow) (n : ℕ) (b : Bool) where
  abbrev pub P3 : List Item
  P3 = ports_said ++ flag_fields rows

  abbrev pub P4 : List Item
  P4 = field_registers (choice_fields rows)

  abbrev pub P6 : List Item
  P6 = pointer_registers (W.place + W.tag) sig_name 0 W.sigs

  abbrev pub P7 : List Item
  P7 = pointer_registers (W.place + W.tag) box_name 0 W.boxes

  abbrev pub P9 : List Item
  P9 = store_registers W ++ (unit_registers b ++ read_said)

  abbrev pub P10 : List Item
  P10 = pointer_parts (W.place + W.tag) "cell_has" word_name 0 0 W.words

  abbrev pub P11 : List Item
  P11 = pointer_parts (W.place + W.tag) "fork_has" fork_box_name W.place 0 W.saved

  abbrev pub P13 : List Item
  P13 = slot_wires W.place W.tag rows (all_slots rows)

  abbrev pub P15 : List Item
  P15 = found_registers (row_fields rows)

  abbrev pub P16 : List Item
  P16 = wire (upto (count (W.key - 1))) "goes" (pick (name "rst") (sized W.key start) (name "to")) ∷ []

  abbrev pub P20 : List Item
  P20 = unit_wires b ++ rest_wires W

  -- names of operands
  abbrev P17 : List Item
  P17 = wire (upto (count 64)) "first" (num 0) ∷ wire (upto (count 64)) "second" (num 0) ∷ wire one "less" (num 0) ∷ []

  -- all that is declared, what of it are own names, and what are groups
  abbrev pub E : ℕ → List Entry
  E k = after k (joined_ports ∷ arg_inputs 0 n ∷ P3 ∷ P4 ∷ lists_said ∷ P6 ∷ P7 ∷ held_regs 0 n ∷ P9 ∷ P10 ∷ P11 ∷ place_wires W ∷ P13 ∷
      find_said ∷ P15 ∷ P16 ∷ P17 ∷ P20 ∷ []) []

  abbrev pub F : ℕ → List Entry
  F k = after k (joined_ports ∷ [] ∷ P3 ∷ [] ∷ [] ∷ [] ∷ [] ∷ [] ∷ P9 ∷ [] ∷ [] ∷ place_wires W ∷ [] ∷ [] ∷ [] ∷ P16 ∷ P17 ∷ P20 ∷ []) []

  abbrev G : ℕ → List (List Item)
  G k = turned k ([] ∷ arg_inputs 0 n ∷ [] ∷ P4 ∷ [] ∷ P6 ∷ P7 ∷ held_regs 0 n ∷ [] ∷ P10 ∷ P11 ∷ [] ∷ P13 ∷ [] ∷ P15 ∷ [] ∷ [] ∷ [] ∷
      []) []

-- what holds with a product and without
pub at_both : (P : Bool → Type 0) → P true → P false → (b : Bool) → P b
at_both P h k true = h
at_both P h k false = k

pub own_registers : (W : Widths) (start : ℕ) (rows : List ModuleRow) (n : ℕ) (b : Bool) → own_items (P9 W start rows n b) ≡ true
own_registers W start rows n = at_both (λ b. own_items (P9 W start rows n b) ≡ true) refl refl

last_right : (W : Widths) → nat_lt 0 W.depth ≡ true → (start : ℕ) (rows : List ModuleRow) (n : ℕ) (ds : List String) (b : Bool) →
    items_ok (F W start rows n b 17) ds (P20 W start rows n b) ≡ true
last_right W h start rows n ds =
    let k = and_from _ _ h (and_from _ true h refl) in
    at_both (λ b. items_ok (F W start rows n b 17) ds (P20 W start rows n b) ≡ true) k k

-- what is asked of a table
pub record Asked (rows : List ModuleRow) (z : Room) (start n : ℕ) : Type 0 where
  pub ports : 0 + n < 2 ^ 64
  pub sigs : 0 + sig_count rows < 2 ^ 64
  pub boxes : 0 + box_count rows < 2 ^ 64
  pub saved : 0 + fork_count rows < 2 ^ 64
  pub words : 0 + word_count rows < 2 ^ 64
  pub within : each_within (widths rows z) n rows ≡ true
  pub first : nat_le (literal_field rows first_input).bits 64 ≡ true
  pub second : nat_le (literal_field rows second_input).bits 64 ≡ true

module _ (rows : List ModuleRow) (z : Room) (start n : ℕ) (b : Bool) (A : Asked rows z start n) where
  abbrev pub W : Widths
  W = widths rows z

  abbrev pub fs : List Field
  fs = row_fields rows

  abbrev pub w : ℕ
  w = W.place + W.tag

  abbrev pub e : ℕ → List Entry
  e = E W start rows n b

  abbrev pub f : ℕ → List Entry
  f = F W start rows n b

  abbrev pub g : ℕ → List (List Item)
  g = G W start rows n b

  -- the groups
  pub g2 : Counted 1 2 (arg_inputs 0 n)
  g2 = args_group n A.ports

  pub g4 : Counted 2 5 (P4 W start rows n b)
  g4 = choices_group rows A.sigs A.boxes A.saved A.words

  pub g6 : Counted 5 6 (P6 W start rows n b)
  g6 = regs_group w sig_name 5 sigs (omega arith) W.sigs A.sigs

  pub g7 : Counted 6 7 (P7 W start rows n b)
  g7 = regs_group w box_name 6 boxes (omega arith) W.boxes A.boxes

  pub g8 : Counted 7 8 (held_regs 0 n)
  g8 = held_group n A.ports

  pub g10 : Counted 8 9 (P10 W start rows n b)
  g10 = parts_group w word_name 8 words (omega arith) "cell_has" 0 W.words A.words

  pub g11 : Counted 9 10 (P11 W start rows n b)
  g11 = parts_group w fork_box_name 9 fork_boxes (omega arith) "fork_has" W.place W.saved A.saved

  pub g13 : Counted 10 15 (P13 W start rows n b)
  g13 = slots_group rows A.sigs A.boxes A.saved A.words W.place W.tag

  pub g15 : Counted 15 16 (P15 W start rows n b)
  g15 = founds_group rows A.sigs A.boxes A.saved A.words

  -- the states
  s1 : State 1 (e 1) (f 1) (g 1)
  s1 = own_step 1 (omega arith) (joined_ports) refl (e 0) (f 0) (g 0) no_state

  s2 : State 2 (e 2) (f 2) (g 2)
  s2 = group_step 1 2 (omega arith) (omega arith) (arg_inputs 0 n) (e 1) (f 1) (g 1) s1 g2

  s3 : State 2 (e 3) (f 3) (g 3)
  s3 = own_step 2 (omega arith) (P3 W start rows n b) refl (e 2) (f 2) (g 2) s2

  s4 : State 5 (e 4) (f 4) (g 4)
  s4 = group_step 2 5 (omega arith) (omega arith) (P4 W start rows n b) (e 3) (f 3) (g 3) s3 g4

  s5 : State 5 (e 5) (f 5) (g 5)
  s5 = own_step 5 (omega arith) (lists_said) refl (e 4) (f 4) (g 4) s4

  s6 : State 6 (e 6) (f 6) (g 6)
  s6 = group_step 5 6 (omega arith) (omega arith) (P6 W start rows n b) (e 5) (f 5) (g 5) s5 g6

  s7 : State 7 (e 7) (f 7) (g 7)
  s7 = group_step 6 7 (omega arith) (omega arith) (P7 W start rows n b) (e 6) (f 6) (g 6) s6 g7

  s8 : State 8 (e 8) (f 8) (g 8)
  s8 = group_step 7 8 (omega arith) (omega arith) (held_regs 0 n) (e 7) (f 7) (g 7) s7 g8

  s9 : State 8 (e 9) (f 9) (g 9)
  s9 = own_step 8 (omega arith) (P9 W start rows n b) (own_registers W start rows n b) (e 8) (f 8) (g 8) s8

  s10 : State 9 (e 10) (f 10) (g 10)
  s10 = group_step 8 9 (omega arith) (omega arith) (P10 W start rows n b) (e 9) (f 9) (g 9) s9 g10

  s11 : State 10 (e 11) (f 11) (g 11)
  s11 = group_step 9 10 (omega arith) (omega arith) (P11 W start rows n b) (e 10) (f 10) (g 10) s10 g11

  s12 : State 10 (e 12) (f 12) (g 12)
  s12 = own_step 10 (omega arith) (place_wires W) refl (e 11) (f 11) (g 11) s11

  s13 : State 15 (e 13) (f 13) (g 13)
  s13 = group_step 10 15 (omega arith) (omega arith) (P13 W start rows n b) (e 12) (f 12) (g 12) s12 g13

  s14 : State 15 (e 14) (f 14) (g 14)
  s14 = own_step 15 (omega arith) (find_said) refl (e 13) (f 13) (g 13) s13

  s15 : State 16 (e 15) (f 15) (g 15)
  s15 = group_step 15 16 (omega arith) (omega arith) (P15 W start rows n b) (e 14) (f 14) (g 14) s14 g15

  pub s16 : State 16 (e 16) (f 16) (g 16)
  s16 = own_step 16 (omega arith) (P16 W start rows n b) refl (e 15) (f 15) (g 15) s15

  s17 : State 16 (e 17) (f 17) (g 17)
  s17 = own_step 16 (omega arith) (P17 W start rows n b) refl (e 16) (f 16) (g 16) s16

  pub s18 : State 16 (e 18) (f 18) (g 18)
  s18 = own_step 16 (omega arith) (P20 W start rows n b) (own_last b) (e 17) (f 17) (g 17) s17
    where
      own_last : (b : Bool) → own_items (P20 W start rows n b) ≡ true
      own_last = at_both (λ b. own_items (P20 W start rows n b) ≡ true) refl refl

  -- own names at the block that finds
  own16 : (p : Kind → Bool) (x : String) → own x ≡ true → of_kind p (F W start rows n true 16) x ≡ true →
      of_kind p (F W start rows n false 16) x ≡ true → of_kind p (e 16) x ≡ true
  own16 p x o h k = s16.same.kind p x o ∙ at_both (λ b. of_kind p (F W start rows n b 16) x ≡ true) h k b

  -- at the slots
  pointers : Pointers W (e 12)
  pointers = record {
    sigs = reg_known (e 12) w sig_name W.sigs (knows (e 12) (g 12) 6 s12.known);
    boxes = reg_known (e 12) w box_name W.boxes (knows (e 12) (g 12) 5 s12.known);
    forks = λ i l. part_known (e 12) w "fork_has" fork_box_name W.place W.saved (knows (e 12) (g 12) 1 s12.known) i l vector;
    words = λ i l. part_known (e 12) w "cell_has" word_name 0 W.words (knows (e 12) (g 12) 2 s12.known) i l vector;
    base = s12.same.kind vector "base" refl;
  }

  fine13 : all_fine (e 12) (P13 W start rows n b) ≡ true
  fine13 = slots_fine W (e 12) pointers W.place W.tag n rows A.within (all_slots rows)
      (slots_known (e 12) (tag_bits rows) rows (all_slots rows) (knows (e 12) (g 12) 8 s12.known).1.1.1.1) (slots_within W n rows A.within)

  -- at the operands
  choices16 : AllKnown (e 16) (P4 W start rows n b)
  choices16 = knows (e 16) (g 16) 12 s16.known

  operands : Operands n (e 16)
  operands = record {
    result = own16 vector "result" refl refl refl;
    kept = own16 vector "kept" refl refl refl;
    held = λ i l. held_known (e 16) n (knows (e 16) (g 16) 8 s16.known) i l vector;
  }

  first_ok : expr_ok (e 16) (input_expr rows first_input) ≡ true
  first_ok =
      input_ok W n (e 16) operands rows first_input (choices16.0 vector) (choices16.1.0 vector) A.first (first_within W n rows A.within)

  second_ok : expr_ok (e 16) (input_expr rows second_input) ≡ true
  second_ok = input_ok W n (e 16) operands rows second_input (choices16.1.1.0 vector) (choices16.1.1.1.0 vector) A.second
      (second_within W n rows A.within)

  -- at the block that finds
  abbrev Wires : List Entry → (ℕ → Slot) → ℕ → Type 0
  Wires E f k = AllKnown E (slot_wires W.place W.tag rows (slots_from f 0 k))

  pub slots_are : (E : List Entry) → AllKnown E (P13 W start rows n b) → Wires E sig_slot (sig_count rows) ×
      (Wires E box_slot (box_count rows) × (Wires E open_slot (fork_count rows) × (Wires E word_slot (word_count rows) ×
      Known E "looked" a_wire)))
  slots_are E h =
      let (a, k) = split_known E W.place W.tag rows (slots_from sig_slot 0 (sig_count rows)) _ h in
      let (b, l) = split_known E W.place W.tag rows (slots_from box_slot 0 (box_count rows)) _ k in
      let (c, m) = split_known E W.place W.tag rows (slots_from open_slot 0 (fork_count rows)) _ l in
      let (d, q) = split_known E W.place W.tag rows (slots_from word_slot 0 (word_count rows)) (looked_slot ∷ []) m in
      (a, (b, (c, (d, q.0))))

  find_ok : item_ok (e 16) [] (settles (find_stmt W rows fs)) ≡ true
  find_ok = find_item_ok (e 16) W rows fs (knows (e 16) (g 16) 1 s16.known) (fields_wide rows) (own16 vector "nonzero" refl refl refl)
      (own16 vector "later" refl refl refl) ((slots_are (e 16) (knows (e 16) (g 16) 3 s16.known)).1.1.1.1 selects)
      (own16 vector "goes" refl refl refl) (tag_positive rows) (key_positive rows)

  goes_ok : items_ok (e 15) [] (P16 W start rows n b) ≡ true
  goes_ok =
      let o : (x : String) → own x ≡ true → of_kind vector (F W start rows n true 15) x ≡ true →
      of_kind vector (F W start rows n false 15) x ≡ true → of_kind vector (e 15) x ≡ true =
      λ x o h k. s15.same.kind vector x o ∙ at_both (λ b. of_kind vector (F W start rows n b 15) x ≡ true) h k b in
      and_from _ true (and_from _ _ (ap not (s15.same.taken "goes" refl
      ∙ at_both (λ b. taken (F W start rows n b 15) "goes" ≡ false) refl refl b))
      (and_from _ _ (o "rst" refl refl refl) (and_from _ _ (key_positive rows) (o "to" refl refl refl)))) refl

  operands_right : (ds : List String) → items_ok (e 16) ds (operand_wires_of b (input_expr rows first_input)
      (input_expr rows second_input)) ≡ true
  operands_right ds = go b refl
    where
      x : Expr
      x = input_expr rows first_input

      y : Expr
      y = input_expr rows second_input

      e17 : List Entry
      e17 = declare a_wire "first" (e 16)

      free : (z : String) → own z ≡ true → taken (F W start rows n true 16) z ≡ false → taken (F W start rows n false 16) z ≡ false →
          taken (e 16) z ≡ false
      free z o h k = s16.same.taken z o ∙ at_both (λ b. taken (F W start rows n b 16) z ≡ false) h k b

      y17 : expr_ok (declare a_wire "first" (e 16)) y ≡ true
      y17 = expr_grows a_wire "first" (e 16) (free "first" refl refl refl) y second_ok

      go : (c : Bool) → b ≡ c → items_ok (e 16) ds (operand_wires_of c x y) ≡ true
      go false q = and_from _ _ (and_from _ _ (ap not (free "first" refl refl refl)) first_ok)
          (and_from _ _ (and_from _ _ (ap not (free "second" refl refl refl)) y17)
          (and_from _ true (and_from _ _ (ap not (free "less" refl refl refl)) (own16 vector "subtracts" refl refl refl)) refl))
      go true q = and_from _ _ (and_from _ _ (ap not (free "first" refl refl refl))
          (and_from _ _ (goes "begun" refl refl) (and_from _ _ (goes "total" refl refl) first_ok)))
          (and_from _ _ (and_from _ _ (ap not (free "second" refl refl refl))
          (and_from _ _ (goes "begun" refl refl) (and_from _ _ (goes "factor" refl refl) y17)))
          (and_from _ true (and_from _ _ (ap not (free "less" refl refl refl))
          (and_from _ _ (goes "subtracts" refl refl) (goes "begun" refl refl))) refl))
        where
          goes : (z : String) → own z ≡ true → of_kind vector (F W start rows n true 16) z ≡ true → of_kind vector (e 16) z ≡ true
          goes z o h = s16.same.kind vector z o ∙ ap (λ t. of_kind vector (F W start rows n t 16) z) q ∙ h

  pub founds_named_is : AllNames 15 16 (names_of (P15 W start rows n b))
  founds_named_is = g15.named

  -- each layer but the last one is right
  abbrev pub ds20 : List String
  ds20 = sets_first (find_stmt W rows fs) ++ []

  abbrev pub tail18 : List Item → List Item
  tail18 js =
      numbers_said ++ (operand_wires_of b (input_expr rows first_input) (input_expr rows second_input) ++ (P20 W start rows n b ++ js))

  abbrev pub tail15 : List Item → List Item
  tail15 js = P16 W start rows n b ++ (settles (find_stmt W rows fs) ∷ [] ++ tail18 js)

  abbrev tail12 : List Item → List Item
  tail12 js = place_wires W ++ (P13 W start rows n b ++ (find_said ++ (P15 W start rows n b ++ tail15 js)))

  abbrev tail9 : List Item → List Item
  tail9 js = P9 W start rows n b ++ (P10 W start rows n b ++ (P11 W start rows n b ++ tail12 js))

  abbrev tail6 : List Item → List Item
  tail6 js = P6 W start rows n b ++ (P7 W start rows n b ++ (held_regs 0 n ++ tail9 js))

  pub right18 : (js : List Item) → items_ok (e 18) ds20 js ≡ true → items_ok (e 16) ds20 (tail18 js) ≡ true
  right18 js h = operands_then b (operands_right ds20)
      (step (P20 W start rows n b) js (e 17) ds20 (at_both (λ b. blockless (P20 W start rows n b) ≡ true) refl refl b)
      (own_ok (P20 W start rows n b) (at_both (λ b. own_items (P20 W start rows n b) ≡ true) refl refl b) (e 17) (f 17) ds20 s17.same
      (last_right W (positive z.forks) start rows n ds20 b)) h)
    where
      operands_then : (c : Bool) → items_ok (e 16) ds20 (operand_wires_of c (input_expr rows first_input)
          (input_expr rows second_input)) ≡ true → items_ok (e 17) ds20 (P20 W start rows n b ++ js) ≡ true →
          items_ok (e 16) ds20 (operand_wires_of c (input_expr rows first_input) (input_expr rows second_input) ++
          (P20 W start rows n b ++ js)) ≡ true
      operands_then true h k =
          items_append (operand_wires_of true (input_expr rows first_input) (input_expr rows second_input)) (P20 W start rows n b ++ js)
          (e 16) ds20 h k
      operands_then false h k =
          items_append (operand_wires_of false (input_expr rows first_input) (input_expr rows second_input)) (P20 W start rows n b ++ js)
          (e 16) ds20 h k

  right15 : (js : List Item) → items_ok (e 18) ds20 js ≡ true → items_ok (e 15) [] (tail15 js) ≡ true
  right15 js h = step (P16 W start rows n b) (settles (find_stmt W rows fs) ∷ [] ++ tail18 js) (e 15) [] refl goes_ok
      (and_from _ _ find_ok (right18 js h))

  pub right12 : (js : List Item) → items_ok (e 18) ds20 js ≡ true → items_ok (e 11) [] (tail12 js) ≡ true
  right12 js h = step (place_wires W) (P13 W start rows n b ++ (find_said ++ (P15 W start rows n b ++ tail15 js))) (e 11) [] refl (own_ok
      (place_wires W) refl (e 11) (f 9) [] s11.same (at_both (λ b. items_ok (F W start rows n b 11) [] (place_wires W) ≡ true) refl refl b))
      (group_then [] 10 15 (P13 W start rows n b) (find_said ++ (P15 W start rows n b ++ tail15 js)) (e 12) s12.low g13 fine13
      (group_then [] 15 16 (P15 W start rows n b) (tail15 js) (e 14) s14.low g15 (founds_fine (e 14) rows) (right15 js h)))

  -- vectors of pointers
  cell_is : of_kind selects (e 9) "cell_has" ≡ true
  cell_is = s9.same.kind selects "cell_has" refl ∙ at_both (λ b. of_kind selects (F W start rows n b 9) "cell_has" ≡ true) refl refl b

  fork_is : of_kind selects (e 10) "fork_has" ≡ true
  fork_is = s10.same.kind selects "fork_has" refl ∙ at_both (λ b. of_kind selects (F W start rows n b 9) "fork_has" ≡ true) refl refl b

  right9 : (js : List Item) → items_ok (e 18) ds20 js ≡ true → items_ok (e 8) [] (tail9 js) ≡ true
  right9 js h =
      step (P9 W start rows n b) (P10 W start rows n b ++ (P11 W start rows n b ++ tail12 js)) (e 8) [] (at_both (λ b. blockless
      (P9 W start rows n b) ≡ true) refl refl b)
      (own_ok (P9 W start rows n b) (own_registers W start rows n b) (e 8) (f 3) [] s8.same (at_both (λ b. items_ok
      (F W start rows n b 8) [] (P9 W start rows n b) ≡ true) refl refl b))
      (group_then [] 8 9 (P10 W start rows n b) (P11 W start rows n b ++ tail12 js) (e 9) s9.low g10
      (parts_fine w word_name (e 9) "cell_has" cell_is 0 0 W.words)
      (group_then [] 9 10 (P11 W start rows n b) (tail12 js) (e 10) s10.low g11
      (parts_fine w fork_box_name (e 10) "fork_has" fork_is W.place 0 W.saved) (right12 js h)))

  right6 : (js : List Item) → items_ok (e 18) ds20 js ≡ true → items_ok (e 5) [] (tail6 js) ≡ true
  right6 js h = group_then [] 5 6 (P6 W start rows n b) (P7 W start rows n b ++ (held_regs 0 n ++ tail9 js)) (e 5) s5.low g6
      (regs_fine w sig_name (e 5) 0 W.sigs)
      (group_then [] 6 7 (P7 W start rows n b) (held_regs 0 n ++ tail9 js) (e 6) s6.low g7 (regs_fine w box_name (e 6) 0 W.boxes)
      (group_then [] 7 8 (held_regs 0 n) (tail9 js) (e 7) s7.low g8 (held_fine (e 7) 0 n) (right9 js h)))

  pub front_right : (js : List Item) → items_ok (e 18) ds20 js ≡ true →
      items_ok [] [] (joined_ports ++ (arg_inputs 0 n ++ (P3 W start rows n b ++ (P4 W start rows n b ++ (lists_said ++ tail6 js))))) ≡ true
  front_right js h =
      step joined_ports (arg_inputs 0 n ++ (P3 W start rows n b ++ (P4 W start rows n b ++ (lists_said ++ tail6 js)))) [] [] refl refl
      (group_then [] 1 2 (arg_inputs 0 n) (P3 W start rows n b ++ (P4 W start rows n b ++ (lists_said ++ tail6 js))) (e 1) s1.low g2
      (args_fine (e 1) 0 n) (step (P3 W start rows n b) (P4 W start rows n b ++ (lists_said ++ tail6 js)) (e 2) [] refl
      (own_ok (P3 W start rows n b) refl (e 2) (e 1) [] s2.same refl)
      (group_then [] 2 5 (P4 W start rows n b) (lists_said ++ tail6 js) (e 3) s3.low g4 (fields_fine (e 3) rows) (right6 js h))))
