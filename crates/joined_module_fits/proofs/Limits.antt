-- The limits of the module: it has no sizes, and a name that stands once is as wide as in the list of these names alone.
use Rattle.std.proofs.Common.{◌≡◌, ◌<◌, ◌≤◌, ◌-◌, ◌+◌, ◌++◌, ℕ, zero, suc, Bool, true, false, not, cond, ◌&&◌, ◌||◌, List, [], ◌∷◌, Some}
use Rattle.std.proofs.Common.{refl, ap, ◌∙◌, arith}
use Rattle.std.proofs.lemmas.Bool.{and_parts, and_from}
use Prim.Native.String.{String}
use Rattle.joined_core.specs.Circuit.{Room}
use Rattle.verilog_tree.specs.Tree.{Item, note, size, constant, input, output, reg, memory, wire, settles}
use Rattle.verilog_tree.specs.Meaning.{Scope, chosen, width_of, param_in, named_here, width_in, words_in}
use Rattle.verilog_tree.specs.WellFormed.{Entry, Limits, size_in, limits_of, limits, items_ok, declared, driven}
use Rattle.verilog_tree.specs.Items.{Has, here, further, item_name, item_wide}
use Rattle.verilog_tree.proofs.Own.{same_name}
use Rattle.verilog_tree.proofs.Once.{is_name, other, tail_ok}
use Rattle.verilog_tree.proofs.Lists.{in_front, behind as further_on}
use Rattle.verilog_tree.proofs.Declares.{foreign_items, width_over}
use Rattle.joined_module.specs.Names.{sig_name, box_name}
use Rattle.joined_module.specs.Rows.{ModuleRow}
use Rattle.joined_module.specs.Fields.{Field, vector_wide, row_fields, input_expr, first_input, second_input, Slot, slots_from, sig_slot}
use Rattle.joined_module.specs.Fields.{box_slot, open_slot, word_slot, looked_slot, sig_count, box_count, fork_count, word_count, slot_expr}
use Rattle.joined_module.specs.Ports.{arg_inputs, held_regs}
use Rattle.joined_module.specs.Module.{Widths, widths, joined_ports, lists_said, pointer_registers, place_wires, slot_wires, find_said}
use Rattle.joined_module.specs.Module.{find_stmt}
use Rattle.joined_module_fits.proofs.Names.{own}
use Rattle.joined_module_fits.proofs.Groups.{Counted, AllNames, names_of, all_counted, counted, not_own}
use Rattle.joined_module_fits.proofs.States.{layers, at_both, Asked, g2, g4, g6, g7, g8, g10, g11, g13, g15, P3, P4, P6, P7, P9, P10, P11}
use Rattle.joined_module_fits.proofs.States.{P13, P15, P16}
use Rattle.joined_module_fits.proofs.Clock.{layers_right}
use Rattle.joined_module_fits.proofs.Ordered.{behind}

-- ---- layers of which some are groups

abbrev sizeless : List Item → Bool
sizeless [] = true
sizeless (size x n ∷ is) = false
sizeless (i ∷ is) = sizeless is

sizes_append : (x : String) (is js : List Item) → sizeless is ≡ true → size_in (is ++ js) x ≡ size_in js x
sizes_append x [] js h = refl
sizes_append x (size y n ∷ is) js h = absurd cc
sizes_append x (i ∷ is) js h = sizes_append x is js h

-- items of a group declare no size, and no own name
group_foreign : (c d : ℕ) → 1 ≤ c → (is : List Item) → all_counted is ≡ true → AllNames c d (names_of is) →
    (sizeless is && foreign_items own is) ≡ true
group_foreign c d l [] h a = refl
group_foreign c d l (input w x ∷ is) h a =
    let (p, q) = and_parts (sizeless is) _ (group_foreign c d l is (and_parts (counted (input w x)) (all_counted is) h).1 a.1) in
    and_from _ _ p (and_from _ _ (ap not (not_own c d l x a.0)) q)
group_foreign c d l (reg w x ∷ is) h a =
    let (p, q) = and_parts (sizeless is) _ (group_foreign c d l is h a.1) in and_from _ _ p (and_from _ _ (ap not (not_own c d l x a.0)) q)
group_foreign c d l (wire w x e ∷ is) h a =
    let (p, q) = and_parts (sizeless is) _ (group_foreign c d l is h a.1) in and_from _ _ p (and_from _ _ (ap not (not_own c d l x a.0)) q)
group_foreign c d l (i ∷ is) h a = absurd cc

-- the layers that are no groups; there the others are []
abbrev pub plain_of : List (Bool × List Item) → List Item → List Item
plain_of [] js = js
plain_of (l ∷ ls) js = cond l.0 (plain_of ls js) (l.1 ++ plain_of ls js)

abbrev pub all_of : List (Bool × List Item) → List Item → List Item
all_of [] js = js
all_of (l ∷ ls) js = l.1 ++ all_of ls js

-- groups declare no own name, and nothing in front is a size
abbrev layered : List (Bool × List Item) → Bool
layered [] = true
layered (l ∷ ls) = (sizeless l.1 && (not l.0 || foreign_items own l.1)) && layered ls

no_sizes : (x : String) (js : List Item) (ls : List (Bool × List Item)) → layered ls ≡ true → size_in (all_of ls js) x ≡ size_in js x
no_sizes x js [] h = refl
no_sizes x js (l ∷ ls) h =
    let (a, b) = and_parts (sizeless l.1 && (not l.0 || foreign_items own l.1)) _ h in
    sizes_append x l.1 (all_of ls js) (and_parts (sizeless l.1) _ a).0 ∙ no_sizes x js ls b

-- ---- widths

-- what stands in front says the same
front_same : (p : String → ℕ) (x : String) (is js ks : List Item) → width_in p js x ≡ width_in p ks x →
    width_in p (is ++ js) x ≡ width_in p (is ++ ks) x
front_same p x [] js ks h = h
front_same p x (size y n ∷ is) js ks h = ap (λ m. named_here y x 32 m) (front_same p x is js ks h)
front_same p x (constant w y n ∷ is) js ks h = ap (λ m. named_here y x (width_of p w) m) (front_same p x is js ks h)
front_same p x (input w y ∷ is) js ks h = ap (λ m. named_here y x (width_of p w) m) (front_same p x is js ks h)
front_same p x (output w y ∷ is) js ks h = ap (λ m. named_here y x (width_of p w) m) (front_same p x is js ks h)
front_same p x (reg w y ∷ is) js ks h = ap (λ m. named_here y x (width_of p w) m) (front_same p x is js ks h)
front_same p x (memory w y k ∷ is) js ks h = ap (λ m. named_here y x (width_of p w) m) (front_same p x is js ks h)
front_same p x (wire w y e ∷ is) js ks h = ap (λ m. named_here y x (width_of p w) m) (front_same p x is js ks h)
front_same p x (i ∷ is) js ks h = front_same p x is js ks h

-- groups say nothing of own names
wide_plain : (p : String → ℕ) (x : String) → own x ≡ true → (js : List Item) (ls : List (Bool × List Item)) → layered ls ≡ true →
    width_in p (all_of ls js) x ≡ width_in p (plain_of ls js) x
wide_plain p x o js [] h = refl
wide_plain p x o js (l ∷ ls) h =
    let (a, b) = and_parts (sizeless l.1 && (not l.0 || foreign_items own l.1)) _ h in
    go l.0 (and_parts (sizeless l.1) _ a).1 (wide_plain p x o js ls b)
  where
    go : (c : Bool) → (not c || foreign_items own l.1) ≡ true → width_in p (all_of ls js) x ≡ width_in p (plain_of ls js) x →
        width_in p (l.1 ++ all_of ls js) x ≡ width_in p (cond c (plain_of ls js) (l.1 ++ plain_of ls js)) x
    go true f k = width_over own p l.1 f (all_of ls js) x o ∙ k
    go false f k = front_same p x l.1 (all_of ls js) (plain_of ls js) k

-- a number, if a name is here, and else another
abbrev here_or : ℕ → ℕ → Bool → ℕ
here_or n m b = elim b [ true ↦ n | false ↦ m ]

-- an item is as wide as it says, where each name is declared once
width_step : (p : String → ℕ) (i : Item) (is : List Item) (x : String) →
    width_in p (i ∷ is) x ≡ here_or (item_wide p i) (width_in p is x) (is_name (item_name i) x)
width_step p (note s) is x = refl
width_step p i is x = refl

width_is : (p : String → ℕ) (is : List Item) (E : List Entry) (ds : List String) → items_ok E ds is ≡ true → (i : Item) → Has i is →
    (x : String) → item_name i ≡ Some x → width_in p is x ≡ item_wide p i
width_is p [] E ds o i h x e = elim h [ ]
width_is p (j ∷ is) E ds o i (here is') x e =
    width_step p j is x ∙ ap (here_or (item_wide p j) (width_in p is x)) (ap (λ n. is_name n x) e ∙ same_name x)
width_is p (j ∷ is) E ds o i (further j' is' h) x e =
    width_step p j is x ∙ ap (here_or (item_wide p j) (width_in p is x)) (other j is E ds o i h x e)
    ∙ width_is p is (declared E j) (driven ds j) (tail_ok E ds j is o) i h x e

-- an item of a layer
abbrev layer_at : List (Bool × List Item) → ℕ → List Item
layer_at [] k = []
layer_at (l ∷ ls) zero = l.1
layer_at (l ∷ ls) (suc k) = layer_at ls k

in_layer : (i : Item) (js : List Item) (ls : List (Bool × List Item)) (k : ℕ) → Has i (layer_at ls k) → Has i (all_of ls js)
in_layer i js [] k h = elim h [ ]
in_layer i js (l ∷ ls) zero h = in_front i l.1 (all_of ls js) h
in_layer i js (l ∷ ls) (suc k) h = further_on i l.1 (all_of ls js) (in_layer i js ls k h)

-- the first register of a list, and a wire of a slot behind others
first_reg : (w : ℕ) (nm : ℕ → String) (i k : ℕ) → 0 < k → Has (reg (vector_wide w) (nm i)) (pointer_registers w nm i k)
first_reg w nm i zero l = absurd (omega (arith, l))
first_reg w nm i (suc k) l = here (pointer_registers w nm (suc i) k)

past_slots : (i : Item) (p t : ℕ) (rows : List ModuleRow) (xs ys : List Slot) → Has i (slot_wires p t rows ys) →
    Has i (slot_wires p t rows (xs ++ ys))
past_slots i p t rows [] ys h = h
past_slots i p t rows (x ∷ xs) ys h = further _ _ (past_slots i p t rows xs ys h)

module _ (rows : List ModuleRow) (z : Room) (start n : ℕ) (b : Bool) (A : Asked rows z start n) where
  abbrev V : Widths
  V = widths rows z

  abbrev w : ℕ
  w = V.place + V.tag

  abbrev fs : List Field
  fs = row_fields rows

  abbrev Z : List Item
  Z = behind b (input_expr rows first_input) (input_expr rows second_input) V fs n

  abbrev pub whole : List Item
  whole = layers V start rows n b

  -- the layers in front of the block that finds, and which are groups
  abbrev pub front : List (Bool × List Item)
  front =
      (false, joined_ports) ∷ (true, arg_inputs 0 n) ∷ (false, P3 V start rows n b) ∷ (true, P4 V start rows n b) ∷ (false, lists_said) ∷
      (true, P6 V start rows n b) ∷ (true, P7 V start rows n b) ∷ (true, held_regs 0 n) ∷ (false, P9 V start rows n b) ∷
      (true, P10 V start rows n b) ∷ (true, P11 V start rows n b) ∷ (false, place_wires V) ∷ (true, P13 V start rows n b) ∷
      (false, find_said) ∷ (true, P15 V start rows n b) ∷ (false, P16 V start rows n b) ∷ []

  -- the names that stand once alone
  abbrev pub plain : List Item
  plain = plain_of front (settles (find_stmt V rows fs) ∷ Z)

  layered_front : layered front ≡ true
  layered_front = and_from _ _ (foreign 1 2 (arg_inputs 0 n) (omega arith) (g2 rows z start n b A))
      (and_from _ _ (foreign 2 5 (P4 V start rows n b) (omega arith) (g4 rows z start n b A))
      (and_from _ _ (foreign 5 6 (P6 V start rows n b) (omega arith) (g6 rows z start n b A))
      (and_from _ _ (foreign 6 7 (P7 V start rows n b) (omega arith) (g7 rows z start n b A))
      (and_from _ _ (foreign 7 8 (held_regs 0 n) (omega arith) (g8 rows z start n b A))
      (and_from _ _ (and_from _ true (at_both (λ b. sizeless (P9 V start rows n b) ≡ true) refl refl b) refl)
      (and_from _ _ (foreign 8 9 (P10 V start rows n b) (omega arith) (g10 rows z start n b A))
      (and_from _ _ (foreign 9 10 (P11 V start rows n b) (omega arith) (g11 rows z start n b A))
      (and_from _ _ (foreign 10 15 (P13 V start rows n b) (omega arith) (g13 rows z start n b A))
      (and_from _ true (foreign 15 16 (P15 V start rows n b) (omega arith) (g15 rows z start n b A)) refl)))))))))
    where
      foreign : (c d : ℕ) (is : List Item) → 1 ≤ c → Counted c d is → (sizeless is && foreign_items own is) ≡ true
      foreign c d is l g = group_foreign c d l is g.counted g.named

  -- the widths of what stands in a layer
  wide_at : (p : String → ℕ) (k : ℕ) (i : Item) → Has i (layer_at front k) → (x : String) → item_name i ≡ Some x →
      width_in p whole x ≡ item_wide p i
  wide_at p k i h x e =
      width_is p whole [] [] (layers_right rows z start n b A) i (in_layer i (settles (find_stmt V rows fs) ∷ Z) front k h) x e

  pub sig_wide : (p : String → ℕ) → 0 < V.sigs → width_in p whole (sig_name 0) ≡ suc (w - 1)
  sig_wide p l = wide_at p 5 (reg (vector_wide w) (sig_name 0)) (first_reg w sig_name 0 V.sigs l) (sig_name 0) refl

  pub box_wide : (p : String → ℕ) → 0 < V.boxes → width_in p whole (box_name 0) ≡ suc (w - 1)
  box_wide p l = wide_at p 6 (reg (vector_wide w) (box_name 0)) (first_reg w box_name 0 V.boxes l) (box_name 0) refl

  pub looked_wide : (p : String → ℕ) → width_in p whole "looked" ≡ suc (w - 1)
  looked_wide p =
      let i = wire (vector_wide w) "looked" (slot_expr V.place V.tag rows looked_slot) in
      wide_at p 12 i (past_slots i V.place V.tag rows (slots_from sig_slot 0 (sig_count rows)) _
      (past_slots i V.place V.tag rows (slots_from box_slot 0 (box_count rows)) _
      (past_slots i V.place V.tag rows (slots_from open_slot 0 (fork_count rows)) _
      (past_slots i V.place V.tag rows (slots_from word_slot 0 (word_count rows)) (looked_slot ∷ []) (here []))))) "looked" refl

  no_size : (x : String) → size_in whole x ≡ false
  no_size x =
      no_sizes x (settles (find_stmt V rows fs) ∷ Z) front layered_front ∙ at_both (λ b. size_in (behind b (input_expr rows first_input)
      (input_expr rows second_input) V fs n) x ≡ false) refl refl b

  -- what is the same of names that stand once is that of either
  mixed_is : (f g : String → ℕ) → ((x : String) → own x ≡ true → f x ≡ g x) → f ≡ λ x. chosen (own x) (g x) (f x)
  mixed_is f g h = λ i x. go x (own x) refl i
    where
      go : (x : String) (c : Bool) → own x ≡ c → f x ≡ chosen c (g x) (f x)
      go x true e = h x e
      go x false e = refl

  abbrev P : String → ℕ
  P = param_in whole

  abbrev pub mixed : Scope
  mixed = record {
    width = λ x. chosen (own x) (width_in P plain x) (width_in P whole x);
    words = words_in P whole;
    param = P;
  }

  abbrev pub known : Limits
  known = limits_of mixed (λ x. false)

  pub limits_known : limits whole ≡ known
  limits_known =
      let w = mixed_is (width_in P whole) (width_in P plain)
      (λ x o. wide_plain P x o (settles (find_stmt V rows fs) ∷ Z) front layered_front) in
      let q : size_in whole ≡ λ x. false = λ i x. no_size x i in
      λ i. limits_of record { width = w i; words = words_in P whole; param = P } (q i)
