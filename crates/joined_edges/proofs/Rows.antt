-- The row in the registers is one that the module has, so its fields fit, and its sources and operands are among those of each slot.
use Rattle.std.proofs.Common.{◌≡◌, ◌<◌, ℕ, zero, suc, ◌+◌, ◌^◌, List, [], ◌∷◌, ◌++◌}
use Rattle.std.proofs.Common.{subst, arith}
use Rattle.joined_module.specs.Rows.{ModuleRow}
use Rattle.joined_module.specs.Fields.{Field, Slot, by_field, tag_field, slots_from, sig_slot, box_slot, open_slot, word_slot, looked_slot}
use Rattle.joined_module.specs.Fields.{sig_count, box_count, fork_count, word_count, all_slots, tag_bits, first_input, second_input}
use Rattle.joined_module.specs.Fields.{operand_field, literal_field, slot_fields, row_fields}
use Rattle.joined_found.specs.Found.{Each}
use Rattle.joined_found.specs.Laws.{FieldFits}
use Rattle.joined_found.proofs.Eaches.{each_map, each_turned}
use Rattle.joined_found.proofs.Fits.{fields_fit}
use Rattle.joined_edges.specs.Timed.{Among, at_front, in_rest}
use Rattle.joined_edges.proofs.Slots.{IsKind, kinds_have}
use Rattle.joined_edges.proofs.Operands.{IsOperand, operands_have}

pub of_among : (p : ModuleRow → Type 0) (r : ModuleRow) (rows : List ModuleRow) → Among r rows → Each p rows → p r
of_among p r [] a h = elim a [ ]
of_among p r (q ∷ rs) (at_front rs') h = h.0
of_among p r (q ∷ rs) (in_rest q' rs' a) h = of_among p r rs a h.1

-- ---- parts of all fields

abbrev pub ByTag : (Field → Type 0) → List ModuleRow → Slot → Type 0
ByTag p rows s = p (by_field rows s) × p (tag_field (tag_bits rows) rows s)

slots_each : (p : Field → Type 0) (rows : List ModuleRow) (ss : List Slot) → Each p (slot_fields (tag_bits rows) rows ss) →
    Each (ByTag p rows) ss
slots_each p rows [] h = tt
slots_each p rows (s ∷ ss) h = ((h.0, h.1.0), slots_each p rows ss h.1.1)

-- what holds of each field holds of those of the slots, and of those of the operands
pub field_slots : (p : Field → Type 0) (rows : List ModuleRow) → Each p (row_fields rows) → Each (ByTag p rows) (all_slots rows)
field_slots p rows h =
    slots_each p rows (all_slots rows) h.1.1.1.1.1.1.1.1.1.1.1.1.1.1.1.1.1.1.1.1.1.1

pub field_first : (p : Field → Type 0) (rows : List ModuleRow) → Each p (row_fields rows) →
    p (operand_field rows first_input) × p (literal_field rows first_input)
field_first p rows h = (h.1.1.1.1.1.1.1.1.1.1.1.1.1.1.1.1.1.1.0, h.1.1.1.1.1.1.1.1.1.1.1.1.1.1.1.1.1.1.1.0)

pub field_second : (p : Field → Type 0) (rows : List ModuleRow) → Each p (row_fields rows) →
    p (operand_field rows second_input) × p (literal_field rows second_input)
field_second p rows h = (h.1.1.1.1.1.1.1.1.1.1.1.1.1.1.1.1.1.1.1.1.0, h.1.1.1.1.1.1.1.1.1.1.1.1.1.1.1.1.1.1.1.1.1.0)

-- ---- slots by their place

each_front : {A : Type 0} (p : A → Type 0) (xs ys : List A) → Each p (xs ++ ys) → Each p xs
each_front p [] ys h = tt
each_front p (x ∷ xs) ys h = (h.0, each_front p xs ys h.1)

each_back : {A : Type 0} (p : A → Type 0) (xs ys : List A) → Each p (xs ++ ys) → Each p ys
each_back p [] ys h = h
each_back p (x ∷ xs) ys h = each_back p xs ys h.1

from_place_on : (p : Slot → Type 0) (f : ℕ → Slot) (i n j : ℕ) → Each p (slots_from f i n) → j < n → p (f (i + j))
from_place_on p f i zero j h l = absurd (omega arith)
from_place_on p f i (suc n) zero h l = subst (λ k. p (f k)) (let e : i ≡ i + 0 = omega arith in e) h.0
from_place_on p f i (suc n) (suc j) h l =
    subst (λ k. p (f k)) (let e : suc i + j ≡ i + suc j = omega arith in e) (from_place_on p f (suc i) n j h.1 (omega arith))

from_first : (p : Slot → Type 0) (f : ℕ → Slot) (n j : ℕ) → Each p (slots_from f 0 n) → j < n → p (f j)
from_first p f n j h l = subst (λ k. p (f k)) (let e : 0 + j ≡ j = omega arith in e) (from_place_on p f 0 n j h l)

module _ (p : Slot → Type 0) (rows : List ModuleRow) (h : Each p (all_slots rows)) where
  abbrev sigs : List Slot
  sigs = slots_from sig_slot 0 (sig_count rows)

  abbrev boxes : List Slot
  boxes = slots_from box_slot 0 (box_count rows)

  abbrev opened : List Slot
  opened = slots_from open_slot 0 (fork_count rows)

  abbrev words : List Slot
  words = slots_from word_slot 0 (word_count rows)

  behind_sigs : Each p (boxes ++ (opened ++ (words ++ looked_slot ∷ [])))
  behind_sigs = each_back p sigs (boxes ++ (opened ++ (words ++ looked_slot ∷ []))) h

  behind_boxes : Each p (opened ++ (words ++ looked_slot ∷ []))
  behind_boxes = each_back p boxes (opened ++ (words ++ looked_slot ∷ [])) behind_sigs

  behind_opened : Each p (words ++ looked_slot ∷ [])
  behind_opened = each_back p opened (words ++ looked_slot ∷ []) behind_boxes

  pub of_sig : (j : ℕ) → j < sig_count rows → p (sig_slot j)
  of_sig j l = from_first p sig_slot (sig_count rows) j (each_front p sigs (boxes ++ (opened ++ (words ++ looked_slot ∷ []))) h) l

  pub of_box : (j : ℕ) → j < box_count rows → p (box_slot j)
  of_box j l = from_first p box_slot (box_count rows) j (each_front p boxes (opened ++ (words ++ looked_slot ∷ [])) behind_sigs) l

  pub of_open : (j : ℕ) → j < fork_count rows → p (open_slot j)
  of_open j l = from_first p open_slot (fork_count rows) j (each_front p opened (words ++ looked_slot ∷ []) behind_boxes) l

  pub of_word : (j : ℕ) → j < word_count rows → p (word_slot j)
  of_word j l = from_first p word_slot (word_count rows) j (each_front p words (looked_slot ∷ []) behind_opened) l

  pub of_looked : p looked_slot
  of_looked = (each_back p words (looked_slot ∷ []) behind_opened).0

-- ---- a row of the module

-- it fits its fields, its sources are kinds of their slots, and its operands those of both inputs
pub record OfModule (R : List ModuleRow) (r : ModuleRow) : Type 0 where
  pub fits : Each (λ f. f.at r < 2 ^ f.bits) (row_fields R)
  pub kinds : Each (λ s. IsKind s R r) (all_slots R)
  pub first : IsOperand first_input R r
  pub second : IsOperand second_input R r

rows_fit_fields : (R : List ModuleRow) → Each (λ r. Each (λ f. f.at r < 2 ^ f.bits) (row_fields R)) R
rows_fit_fields R =
    each_turned (λ f r. f.at r < 2 ^ f.bits) (row_fields R) R
    (each_map (FieldFits R) (λ f. Each (λ r. f.at r < 2 ^ f.bits) R) (λ f h. h.1) (row_fields R) (fields_fit R))

slots_have : (R : List ModuleRow) (ss : List Slot) → Each (λ s. Each (IsKind s R) R) ss
slots_have R [] = tt
slots_have R (s ∷ ss) = (kinds_have s R, slots_have R ss)

pub of_module : (R : List ModuleRow) (r : ModuleRow) → Among r R → OfModule R r
of_module R r a = record {
  fits = of_among (λ r. Each (λ f. f.at r < 2 ^ f.bits) (row_fields R)) r R a (rows_fit_fields R);
  kinds = of_among (λ r. Each (λ s. IsKind s R r) (all_slots R)) r R a
      (each_turned (λ s r. IsKind s R r) (all_slots R) R (slots_have R (all_slots R)));
  first = of_among (IsOperand first_input R) r R a (operands_have first_input R);
  second = of_among (IsOperand second_input R) r R a (operands_have second_input R);
}
