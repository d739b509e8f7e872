-- The expressions of slots and operands name what is declared, where all that the rows name is within.
use Rattle.std.proofs.Common.{◌≡◌, ◌<◌, ◌-◌, ◌++◌, ℕ, zero, suc, max, Bool, true, false, cond, ◌&&◌, List, [], ◌∷◌, refl, arith, length}
use Rattle.std.proofs.Common.{Option, Some, None}
use Rattle.std.specs.Prelude.{nat_lt, nat_le}
use Rattle.std.proofs.lemmas.Bool.{and_parts, and_from, lt-ltb, ltb-true, leb-true}
use Prim.Native.String.{String}
use Rattle.verilog_tree.specs.Tree.{Expr, name}
use Rattle.verilog_tree.specs.WellFormed.{Entry, Kind, a_register, of_kind, selects, vector, expr_ok, exprs_ok}
use Rattle.circuit_module.specs.Sizes.{bits_for}
use Rattle.joined_module.specs.Names.{held_name, sig_name, box_name, word_name, fork_box_name, by_name, tag_name, number_name}
use Rattle.joined_module.specs.Rows.{From, from_sig, from_box, from_fork, from_word, part_of_sig, part_of_box, from_new, from_none, from_at}
use Rattle.joined_module.specs.Rows.{Operand, the_value, the_kept, a_literal, a_port, ModuleRow, row_looks, opened_boxes, is_new_cell}
use Rattle.joined_module.specs.Fields.{bits_upto, kind_of_from, from_place, with_from, Slot, kinds_at, by_field, source_expr, picked}
use Rattle.joined_module.specs.Fields.{sources_exprs, slot_expr, sig_slot, box_slot, open_slot, word_slot, looked_slot, slots_from}
use Rattle.joined_module.specs.Fields.{all_slots, sig_count, box_count, fork_count, word_count, kind_of_operand, operand_place}
use Rattle.joined_module.specs.Fields.{with_operand, Input, operands_at, operand_field, literal_field, operand_expr, operands_exprs}
use Rattle.joined_module.specs.Fields.{input_expr, first_input, second_input, most_by, place_or, operand_number}
use Rattle.joined_module.specs.Module.{Widths}
use Rattle.joined_module.specs.Fits.{source_within, sources_within, option_within, operand_within, row_within, each_within}

-- ---- numbers of bits

pub positive : (n : ℕ) → nat_lt 0 (bits_upto n) ≡ true
positive n = lt-ltb 0 (bits_upto n) (go (bits_for (suc n)))
  where
    go : (k : ℕ) → 0 < max 1 k
    go k = omega arith

-- ---- sources within, of any slot

module _ (W : Widths) where
  abbrev pub within_at : Slot → List ModuleRow → Bool
  within_at s [] = true
  within_at s (r ∷ rs) = option_within W (s.source r) && within_at s rs

  kind_within : (s : From) → source_within W s ≡ true → source_within W (kind_of_from s) ≡ true
  kind_within (from_sig i) h = h
  kind_within (from_box i) h = h
  kind_within (from_fork i) h = h
  kind_within (from_word i) h = h
  kind_within (part_of_sig t) h = h
  kind_within (part_of_box t) h = h
  kind_within (from_new t) h = h
  kind_within (from_none t) h = h

  with_within : (o : Option From) (ss : List From) → option_within W o ≡ true → sources_within W ss ≡ true →
      sources_within W (with_from o ss) ≡ true
  with_within None ss h k = k
  with_within (Some s) ss h k = go (nat_lt (from_place ss (kind_of_from s)) (length ss))
    where
      go : (b : Bool) → sources_within W (cond b ss (kind_of_from s ∷ ss)) ≡ true
      go true = k
      go false = and_from _ _ (kind_within s h) k

  pub kinds_within : (s : Slot) (rows : List ModuleRow) → within_at s rows ≡ true → sources_within W (kinds_at s rows) ≡ true
  kinds_within s [] h = refl
  kinds_within s (r ∷ rs) h =
      let (a, b) = and_parts _ _ h in
      with_within (s.source r) (kinds_at s rs) a (kinds_within s rs b)

  at_within : (l : List From) (i : ℕ) → sources_within W l ≡ true → option_within W (from_at l i) ≡ true
  at_within [] i h = refl
  at_within (s ∷ ss) zero h = (and_parts _ _ h).0
  at_within (s ∷ ss) (suc i) h = at_within ss i (and_parts _ _ h).1

  if_within : (b : Bool) (o : Option From) → option_within W o ≡ true → option_within W (cond b o None) ≡ true
  if_within true o h = h
  if_within false o h = refl

  unless_within : (b : Bool) (o : Option From) → option_within W o ≡ true → option_within W (cond b None o) ≡ true
  unless_within true o h = refl
  unless_within false o h = h

  module _ (n : ℕ) where
    -- what is asked of a row, part by part
    pub record Within (r : ModuleRow) : Type 0 where
      pub sigs : sources_within W r.sigs ≡ true
      pub boxes : sources_within W r.boxes ≡ true
      pub words : sources_within W r.words ≡ true
      pub opened : sources_within W (opened_boxes r.fork) ≡ true
      pub looks : option_within W (row_looks r) ≡ true
      pub first : operand_within n (first_input.source r) ≡ true
      pub second : operand_within n (second_input.source r) ≡ true
      pub moves : nat_lt r.moves 256 ≡ true

    pub within_is : (r : ModuleRow) → row_within W n r ≡ true → Within r
    within_is r h =
        let (ab, c) = and_parts _ _ h in
        let (a, b) = and_parts _ _ ab in
        let (de, f) = and_parts _ _ c in
        let (d, e) = and_parts _ _ de in
        let (g, i) = and_parts _ _ f in
        let (jk, l) = and_parts _ _ i in
        let (j, k) = and_parts _ _ jk in
        record { sigs = a; boxes = b; words = d; opened = e; looks = g; first = j; second = k; moves = l }

    -- so each slot's sources are within
    by_rows : (s : Slot) → ((r : ModuleRow) → Within r → option_within W (s.source r) ≡ true) → (rows : List ModuleRow) →
        each_within W n rows ≡ true → within_at s rows ≡ true
    by_rows s f [] h = refl
    by_rows s f (r ∷ rs) h =
        let (ac, b) = and_parts _ _ h in
        let (a, c) = and_parts _ _ ac in
        and_from _ _ (f r (within_is r a)) (by_rows s f rs b)

    module _ (rows : List ModuleRow) (h : each_within W n rows ≡ true) where
      abbrev pub AllWithin : List Slot → Type 0
      AllWithin [] = Unit {0}
      AllWithin (s ∷ ss) = (within_at s rows ≡ true) × AllWithin ss

      within_append : (xs ys : List Slot) → AllWithin xs → AllWithin ys → AllWithin (xs ++ ys)
      within_append [] ys f g = g
      within_append (s ∷ ss) ys f g = (f.0, within_append ss ys f.1 g)

      within_from : (f : ℕ → Slot) → ((i : ℕ) → within_at (f i) rows ≡ true) → (i k : ℕ) → AllWithin (slots_from f i k)
      within_from f g i zero = tt
      within_from f g i (suc k) = (g i, within_from f g (suc i) k)

      pub slots_within : AllWithin (all_slots rows)
      slots_within = within_append (slots_from sig_slot 0 (sig_count rows)) _
          (within_from sig_slot (λ i. by_rows (sig_slot i) (λ r w. at_within r.sigs i w.sigs) rows h) 0 (sig_count rows))
          (within_append (slots_from box_slot 0 (box_count rows)) _
          (within_from box_slot (λ i. by_rows (box_slot i) (λ r w. at_within r.boxes i w.boxes) rows h) 0 (box_count rows))
          (within_append (slots_from open_slot 0 (fork_count rows)) _
          (within_from open_slot (λ i. by_rows (open_slot i) (λ r w. at_within (opened_boxes r.fork) i w.opened) rows h) 0
          (fork_count rows)) (within_append (slots_from word_slot 0 (word_count rows)) _
          (within_from word_slot (λ i. by_rows (word_slot i) (λ r w. if_within r.makes (from_at r.words i)
          (at_within r.words i w.words)) rows h)
          0 (word_count rows)) (by_rows looked_slot (λ r w. unless_within (is_new_cell (row_looks r)) (row_looks r) w.looks) rows h, tt))))

    -- operands
    abbrev pub operands_within : List Operand → Bool
    operands_within [] = true
    operands_within (x ∷ xs) = operand_within n (Some x) && operands_within xs

    operand_kind : (x : Operand) → operand_within n (Some x) ≡ true → operand_within n (Some (kind_of_operand x)) ≡ true
    operand_kind the_value h = refl
    operand_kind the_kept h = refl
    operand_kind (a_literal m) h = refl
    operand_kind (a_port i) h = h

    with_operands : (o : Option Operand) (xs : List Operand) → operand_within n o ≡ true → operands_within xs ≡ true →
        operands_within (with_operand o xs) ≡ true
    with_operands None xs h k = k
    with_operands (Some x) xs h k = go (nat_lt (operand_place xs (kind_of_operand x)) (length xs))
      where
        go : (b : Bool) → operands_within (cond b xs (kind_of_operand x ∷ xs)) ≡ true
        go true = k
        go false = and_from _ _ (operand_kind x h) k

    inputs_within : (s : Input) → ((r : ModuleRow) → Within r → operand_within n (s.source r) ≡ true) → (rows : List ModuleRow) →
        each_within W n rows ≡ true → operands_within (operands_at s rows) ≡ true
    inputs_within s f [] h = refl
    inputs_within s f (r ∷ rs) h =
        let (ac, b) = and_parts _ _ h in
        let (a, c) = and_parts _ _ ac in
        with_operands (s.source r) (operands_at s rs) (f r (within_is r a)) (inputs_within s f rs b)

    pub first_within : (rows : List ModuleRow) → each_within W n rows ≡ true → operands_within (operands_at first_input rows) ≡ true
    first_within = inputs_within first_input (λ r w. w.first)

    pub second_within : (rows : List ModuleRow) → each_within W n rows ≡ true → operands_within (operands_at second_input rows) ≡ true
    second_within = inputs_within second_input (λ r w. w.second)

-- ---- expressions

picked_ok : (E : List Entry) (e : Expr) (b : ℕ) → expr_ok E e ≡ true → nat_lt 0 b ≡ true → (n : ℕ) (es : List Expr) →
    exprs_ok E es ≡ true → expr_ok E (picked e b n es) ≡ true
picked_ok E e b h k n [] g = refl
picked_ok E e b h k n (x ∷ []) g = (and_parts _ _ g).0
picked_ok E e b h k n (x ∷ y ∷ xs) g =
    let (c, d) = and_parts _ _ g in
    and_from _ _ (and_from _ _ h k) (and_from _ _ c (picked_ok E e b h k (suc n) (y ∷ xs) d))

-- what slots name is declared
pub record Pointers (W : Widths) (E : List Entry) : Type 0 where
  pub sigs : (i : ℕ) → i < W.sigs → (p : Kind → Bool) → of_kind p E (sig_name i) ≡ p a_register
  pub boxes : (i : ℕ) → i < W.boxes → (p : Kind → Bool) → of_kind p E (box_name i) ≡ p a_register
  pub forks : (i : ℕ) → i < W.saved → of_kind vector E (fork_box_name i) ≡ true
  pub words : (i : ℕ) → i < W.words → of_kind vector E (word_name i) ≡ true
  pub base : of_kind vector E "base" ≡ true

module _ (W : Widths) (E : List Entry) (P : Pointers W E) (p t : ℕ) where
  source_ok : (x : String) → of_kind vector E x ≡ true → (s : From) → source_within W s ≡ true →
      expr_ok E (source_expr p t (name x) s) ≡ true
  source_ok x k (from_sig i) h = P.sigs i (ltb-true i W.sigs h) vector
  source_ok x k (from_box i) h = P.boxes i (ltb-true i W.boxes h) vector
  source_ok x k (from_fork i) h = P.forks i (ltb-true i W.saved h)
  source_ok x k (from_word i) h = P.words i (ltb-true i W.words h)
  source_ok x k (part_of_sig m) h = and_from _ _ (and_from _ _ (P.sigs 0 (ltb-true 0 W.sigs h) selects) refl) k
  source_ok x k (part_of_box m) h = and_from _ _ (and_from _ _ (P.boxes 0 (ltb-true 0 W.boxes h) selects) refl) k
  source_ok x k (from_new m) h = and_from _ _ P.base k
  source_ok x k (from_none m) h = and_from _ _ P.base k

  sources_ok : (x : String) → of_kind vector E x ≡ true → (ss : List From) → sources_within W ss ≡ true →
      exprs_ok E (sources_exprs p t (name x) ss) ≡ true
  sources_ok x k [] h = refl
  sources_ok x k (s ∷ ss) h =
      let (a, b) = and_parts _ _ h in
      and_from _ _ (source_ok x k s a) (sources_ok x k ss b)

  pub slot_ok : (rows : List ModuleRow) (s : Slot) → of_kind vector E (by_name s.title) ≡ true → of_kind vector E
      (tag_name s.title) ≡ true →
      within_at W s rows ≡ true → expr_ok E (slot_expr p t rows s) ≡ true
  slot_ok rows s b k h = picked_ok E (name (by_name s.title)) (by_field rows s).bits b
      (positive (most_by (λ r. place_or 0 (λ u. from_place (kinds_at s rows) (kind_of_from u)) (s.source r)) rows)) 0
      (sources_exprs p t (name (tag_name s.title)) (kinds_at s rows)) (sources_ok (tag_name s.title) k (kinds_at s rows)
      (kinds_within W s rows h))

-- what operands name
pub record Operands (n : ℕ) (E : List Entry) : Type 0 where
  pub result : of_kind vector E "result" ≡ true
  pub kept : of_kind vector E "kept" ≡ true
  pub held : (i : ℕ) → i < n → of_kind vector E (held_name i) ≡ true

module _ (W : Widths) (n : ℕ) (E : List Entry) (P : Operands n E) where
  operand_ok : (b : ℕ) → nat_le b 64 ≡ true → (x : String) → of_kind vector E x ≡ true → (y : Operand) →
      operand_within n (Some y) ≡ true → expr_ok E (operand_expr b (name x) y) ≡ true
  operand_ok b l x k the_value h = P.result
  operand_ok b l x k the_kept h = P.kept
  operand_ok b l x k (a_literal m) h =
      let z = leb-true b 64 l in
      and_from _ _ (lt-ltb 0 (65 - b) (omega (arith, z))) k
  operand_ok b l x k (a_port i) h = P.held i (ltb-true i n h)

  operands_ok : (b : ℕ) → nat_le b 64 ≡ true → (x : String) → of_kind vector E x ≡ true → (ys : List Operand) →
      operands_within W n ys ≡ true → exprs_ok E (operands_exprs b (name x) ys) ≡ true
  operands_ok b l x k [] h = refl
  operands_ok b l x k (y ∷ ys) h =
      let (c, d) = and_parts _ _ h in
      and_from _ _ (operand_ok b l x k y c) (operands_ok b l x k ys d)

  pub input_ok : (rows : List ModuleRow) (s : Input) → of_kind vector E (by_name s.title) ≡ true →
      of_kind vector E (number_name s.title) ≡ true → nat_le (literal_field rows s).bits 64 ≡ true →
      operands_within W n (operands_at s rows) ≡ true → expr_ok E (input_expr rows s) ≡ true
  input_ok rows s b k l h = picked_ok E (name (by_name s.title)) (operand_field rows s).bits b
      (positive (most_by (λ r. operand_number (operands_at s rows) (s.source r)) rows)) 0
      (operands_exprs (literal_field rows s).bits (name (number_name s.title)) (operands_at s rows))
      (operands_ok (literal_field rows s).bits l (number_name s.title) k (operands_at s rows) h)
