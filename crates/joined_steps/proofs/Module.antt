-- The module's edge is the clock's block where all has settled; what its items declare, and what its wires are there.
use Rattle.std.proofs.Common.{◌≡◌, ℕ, zero, suc, ◌+◌, Bool, true, false, List, [], ◌∷◌, ◌++◌, refl, ◌∙◌}
use Prim.Native.String.{String}
use Rattle.verilog_tree.specs.Tree.{Expr, Item, clocked}
use Rattle.verilog_tree.specs.Meaning.{Scope, Store, scope, settled, edge}
use Rattle.verilog_tree.specs.WellFormed.{WellFormed}
use Rattle.verilog_tree.specs.Items.{Has}
use Rattle.verilog_tree.specs.Laws.{Declares, Settles}
use Rattle.verilog_tree.proofs.Once.{items_of, tree_declares}
use Rattle.verilog_tree.proofs.Kept.{tree_settles}
use Rattle.verilog_tree.proofs.Lists.{unclocked, clocked_over, stands_at}
use Rattle.joined_core.specs.Circuit.{Room}
use Rattle.joined_module.specs.Names.{sig_name, box_name, word_name, fork_box_name}
use Rattle.joined_module.specs.Rows.{ModuleRow}
use Rattle.joined_module.specs.Fields.{Field, Slot, row_fields, all_slots, input_expr, first_input, second_input}
use Rattle.joined_module.specs.Ports.{arg_inputs, held_regs}
use Rattle.joined_module.specs.Unit.{unit_registers, operand_wires_of, unit_wires}
use Rattle.joined_module.specs.Module.{ModuleTable, found_rows, Widths, widths, has_product, ports_said, field_registers}
use Rattle.joined_module.specs.Module.{pointer_registers, store_registers, pointer_parts, place_wires, slot_wires}
use Rattle.joined_module.specs.Module.{find_said, found_registers, find_items, rest_wires, clock_items, joined_clock_stmt}
use Rattle.joined_module.specs.Module.{head_items, found_items, last_items, joined_module}
use Rattle.joined_clock.proofs.Offs.{Ok, ok_in_front}
use Rattle.joined_clock.proofs.Groups.{sig_regs, box_regs, behind_boxes, behind_sigs, behind_fields, behind_said}
use Rattle.joined_clock.proofs.Clock.{E}
use Rattle.joined_edges.proofs.Items.{in_clock}
use Rattle.joined_steps.proofs.Kept.{Regs, kept}

-- ---- lists without a clock

-- two lists without a clock are none together
both_unclocked : (us vs : List Item) → unclocked us ≡ true → unclocked vs ≡ true → unclocked (us ++ vs) ≡ true
both_unclocked [] vs a b = b
both_unclocked (Item.clocked s ∷ us) vs a b = absurd cc
both_unclocked (Item.note s ∷ us) vs a b = both_unclocked us vs a b
both_unclocked (Item.gap ∷ us) vs a b = both_unclocked us vs a b
both_unclocked (Item.size x n ∷ us) vs a b = both_unclocked us vs a b
both_unclocked (Item.constant w x n ∷ us) vs a b = both_unclocked us vs a b
both_unclocked (Item.input w x ∷ us) vs a b = both_unclocked us vs a b
both_unclocked (Item.output w x ∷ us) vs a b = both_unclocked us vs a b
both_unclocked (Item.reg w x ∷ us) vs a b = both_unclocked us vs a b
both_unclocked (Item.memory w x k ∷ us) vs a b = both_unclocked us vs a b
both_unclocked (Item.wire w x e ∷ us) vs a b = both_unclocked us vs a b
both_unclocked (Item.settles s ∷ us) vs a b = both_unclocked us vs a b

args_unclocked : (i n : ℕ) → unclocked (arg_inputs i n) ≡ true
args_unclocked i zero = refl
args_unclocked i (suc n) = args_unclocked (suc i) n

held_unclocked : (i n : ℕ) → unclocked (held_regs i n) ≡ true
held_unclocked i zero = refl
held_unclocked i (suc n) = held_unclocked (suc i) n

fields_unclocked : (fs : List Field) → unclocked (field_registers fs) ≡ true
fields_unclocked [] = refl
fields_unclocked (f ∷ fs) = fields_unclocked fs

found_unclocked : (fs : List Field) → unclocked (found_registers fs) ≡ true
found_unclocked [] = refl
found_unclocked (f ∷ fs) = found_unclocked fs

pointers_unclocked : (w : ℕ) (x : ℕ → String) (i n : ℕ) → unclocked (pointer_registers w x i n) ≡ true
pointers_unclocked w x i zero = refl
pointers_unclocked w x i (suc n) = pointers_unclocked w x (suc i) n

parts_unclocked : (w : ℕ) (v : String) (x : ℕ → String) (l i n : ℕ) → unclocked (pointer_parts w v x l i n) ≡ true
parts_unclocked w v x l i zero = refl
parts_unclocked w v x l i (suc n) = parts_unclocked w v x (l + w) (suc i) n

slots_unclocked : (p t : ℕ) (rows : List ModuleRow) (ss : List Slot) → unclocked (slot_wires p t rows ss) ≡ true
slots_unclocked p t rows [] = refl
slots_unclocked p t rows (s ∷ ss) = slots_unclocked p t rows ss

unit_unclocked : (b : Bool) → unclocked (unit_registers b) ≡ true
unit_unclocked false = refl
unit_unclocked true = refl

operands_unclocked : (b : Bool) (x y : Expr) → unclocked (operand_wires_of b x y) ≡ true
operands_unclocked false x y = refl
operands_unclocked true x y = refl

wires_unclocked : (b : Bool) → unclocked (unit_wires b) ≡ true
wires_unclocked false = refl
wires_unclocked true = refl

module _ (T : ModuleTable) (z : Room) (n : ℕ) where
  abbrev pub rows : List ModuleRow
  rows = found_rows T.rows

  abbrev pub W : Widths
  W = widths rows z

  abbrev pub fs : List Field
  fs = row_fields rows

  abbrev pub b : Bool
  b = has_product rows

  abbrev pub is : List Item
  is = joined_module T z n

  abbrev pub P : Scope
  P = scope is

  abbrev pub head : List Item
  head = head_items W fs n b

  abbrev pub middle : List Item
  middle = found_items W T.start rows fs

  abbrev pub last : List Item
  last = last_items W rows fs n b

  head_unclocked : unclocked head ≡ true
  head_unclocked =
      both_unclocked (arg_inputs 0 n) (ports_said ++ behind_said W fs n b) (args_unclocked 0 n)
      (both_unclocked (field_registers fs) (behind_fields W fs n b) (fields_unclocked fs)
      (both_unclocked (sig_regs W fs n b) (behind_sigs W fs n b) (pointers_unclocked (W.place + W.tag) sig_name 0 W.sigs)
      (both_unclocked (box_regs W fs n b) (behind_boxes W fs n b) (pointers_unclocked (W.place + W.tag) box_name 0 W.boxes)
      (both_unclocked (held_regs 0 n) (store_registers W ++ unit_registers b) (held_unclocked 0 n) (unit_unclocked b)))))

  abbrev behind_slots : List Item
  behind_slots = find_said ++ (found_registers fs ++ find_items W T.start rows fs)

  abbrev behind_parts : List Item
  behind_parts = place_wires W ++ (slot_wires W.place W.tag rows (all_slots rows) ++ behind_slots)

  middle_unclocked : unclocked middle ≡ true
  middle_unclocked =
      both_unclocked (pointer_parts (W.place + W.tag) "cell_has" word_name 0 0 W.words)
      (pointer_parts (W.place + W.tag) "fork_has" fork_box_name W.place 0 W.saved ++ behind_parts)
      (parts_unclocked (W.place + W.tag) "cell_has" word_name 0 0 W.words)
      (both_unclocked (pointer_parts (W.place + W.tag) "fork_has" fork_box_name W.place 0 W.saved) behind_parts
      (parts_unclocked (W.place + W.tag) "fork_has" fork_box_name W.place 0 W.saved)
      (both_unclocked (slot_wires W.place W.tag rows (all_slots rows)) behind_slots (slots_unclocked W.place W.tag rows (all_slots rows))
      (both_unclocked (found_registers fs) (find_items W T.start rows fs) (found_unclocked fs) refl)))

  -- the edge where all has settled
  pub edge_is : (S : Store) → edge is S ≡ E P W fs n b (settled P is S)
  edge_is S =
      clocked_over P (settled P is S) head head_unclocked (middle ++ last) (settled P is S)
      ∙ clocked_over P (settled P is S) middle middle_unclocked last (settled P is S)
      ∙ clocked_over P (settled P is S) (operand_wires_of b (input_expr rows first_input) (input_expr rows second_input))
      (operands_unclocked b (input_expr rows first_input) (input_expr rows second_input)) (unit_wires b ++ (rest_wires W ++ clock_items W
      fs n b))
      (settled P is S)
      ∙ clocked_over P (settled P is S) (unit_wires b) (wires_unclocked b) (rest_wires W ++ clock_items W fs n b) (settled P is S)

  pub the_clock : Has (clocked (joined_clock_stmt W fs n b)) is
  the_clock =
      in_clock rows z T.start n b (clocked (joined_clock_stmt W fs n b))
      (stands_at (clock_items W fs n b) 3 (clocked (joined_clock_stmt W fs n b)) refl)

  -- ---- of a well-formed module

  module _ (right : WellFormed is ≡ true) where
    pub declares : Declares is
    declares = tree_declares is right

    pub ok : Ok head
    ok = ok_in_front head (middle ++ last) (record { env = []; ds = []; ok = items_of is right })

    module _ (S : Store) where
      abbrev pub R : Store
      R = settled P is S

      pub settles : Settles is S R
      settles = tree_settles is right S

      pub regs : Regs W fs n b S R
      regs = kept W fs n b is S R settles the_clock
