-- Where the groups of items stand in the module.
use Rattle.std.proofs.Common.{ℕ, zero, suc, ◌+◌, Bool, List, [], ◌∷◌, ◌++◌, refl}
use Rattle.verilog_tree.specs.Tree.{Item}
use Rattle.verilog_tree.specs.Items.{Has}
use Rattle.verilog_tree.proofs.Lists.{in_front, behind}
use Rattle.joined_clock.proofs.Offs.{Ok, ok_behind, ok_in_front}
use Rattle.joined_core.specs.Circuit.{Room}
use Rattle.joined_module.specs.Rows.{ModuleRow}
use Rattle.joined_module.specs.Names.{sig_name, box_name, word_name, fork_box_name}
use Rattle.joined_module.specs.Fields.{all_slots, row_fields, first_input, second_input, input_expr}
use Rattle.joined_module.specs.Ports.{arg_inputs, held_regs}
use Rattle.joined_module.specs.Unit.{unit_registers, operand_wires_of, unit_wires}
use Rattle.joined_module.specs.Module.{Widths, widths, joined_ports, ports_said, field_registers, lists_said, pointer_registers}
use Rattle.joined_module.specs.Module.{store_registers, read_said, pointer_parts, place_wires, slot_wires, find_said, found_registers}
use Rattle.joined_module.specs.Module.{find_items, numbers_said, rest_wires, clock_items, head_items, found_items, last_items, module_items}

-- ---- lists one behind the other

abbrev pub chained : List (List Item) → List Item
chained [] = []
chained (g ∷ []) = g
chained (g ∷ h ∷ gs) = g ++ chained (h ∷ gs)

abbrev pub list_at : List (List Item) → ℕ → List Item
list_at [] k = []
list_at (g ∷ gs) zero = g
list_at (g ∷ gs) (suc k) = list_at gs k

in_chain : (gs : List (List Item)) (k : ℕ) (i : Item) → Has i (list_at gs k) → Has i (chained gs)
in_chain [] k i h = elim h [ ]
in_chain (g ∷ []) zero i h = h
in_chain (g ∷ []) (suc k) i h = elim h [ ]
in_chain (g ∷ f ∷ gs) zero i h = in_front i g (chained (f ∷ gs)) h
in_chain (g ∷ f ∷ gs) (suc k) i h = behind i g (chained (f ∷ gs)) (in_chain (f ∷ gs) k i h)

ok_in_chain : (gs : List (List Item)) (k : ℕ) → Ok (chained gs) → Ok (list_at gs k)
ok_in_chain [] k o = o
ok_in_chain (g ∷ []) zero o = o
ok_in_chain (g ∷ []) (suc k) o = record { env = []; ds = []; ok = refl }
ok_in_chain (g ∷ f ∷ gs) zero o = ok_in_front g (chained (f ∷ gs)) o
ok_in_chain (g ∷ f ∷ gs) (suc k) o = ok_in_chain (f ∷ gs) k (ok_behind g (chained (f ∷ gs)) o)

-- ---- the module

module _ (rows : List ModuleRow) (z : Room) (start n : ℕ) (b : Bool) where
  abbrev pub W : Widths
  W = widths rows z

  abbrev pub is : List Item
  is = module_items W start rows (row_fields rows) n b

  abbrev head : List (List Item)
  head =
      joined_ports ∷ arg_inputs 0 n ∷ ports_said ∷ field_registers (row_fields rows) ∷ lists_said ∷
      pointer_registers (W.place + W.tag) sig_name 0 W.sigs ∷ pointer_registers (W.place + W.tag) box_name 0 W.boxes ∷
      held_regs 0 n ∷ store_registers W ∷ unit_registers b ∷ []

  abbrev middle : List (List Item)
  middle =
      read_said ∷ pointer_parts (W.place + W.tag) "cell_has" word_name 0 0 W.words ∷
      pointer_parts (W.place + W.tag) "fork_has" fork_box_name W.place 0 W.saved ∷ place_wires W ∷
      slot_wires W.place W.tag rows (all_slots rows) ∷ find_said ∷ found_registers (row_fields rows) ∷
      find_items W start rows (row_fields rows) ∷ []

  abbrev last : List (List Item)
  last =
      numbers_said ∷ operand_wires_of b (input_expr rows first_input) (input_expr rows second_input) ∷ unit_wires b ∷ rest_wires W ∷
      clock_items W (row_fields rows) n b ∷ []

  abbrev behind_head : List Item
  behind_head = found_items W start rows (row_fields rows) ++ last_items W rows (row_fields rows) n b

  in_head : (k : ℕ) (i : Item) → Has i (list_at head k) → Has i is
  in_head k i h = in_front i (head_items W (row_fields rows) n b) behind_head (in_chain head k i h)

  in_middle : (k : ℕ) (i : Item) → Has i (list_at middle k) → Has i is
  in_middle k i h =
      behind i (head_items W (row_fields rows) n b) behind_head
      (in_front i (found_items W start rows (row_fields rows)) (last_items W rows (row_fields rows) n b) (in_chain middle k i h))

  in_last : (k : ℕ) (i : Item) → Has i (list_at last k) → Has i is
  in_last k i h =
      behind i (head_items W (row_fields rows) n b) behind_head
      (behind i (found_items W start rows (row_fields rows)) (last_items W rows (row_fields rows) n b) (in_chain last k i h))

  pub found_ok : Ok is → Ok (found_registers (row_fields rows))
  found_ok o =
      ok_in_chain middle 6
      (ok_in_front (found_items W start rows (row_fields rows)) (last_items W rows (row_fields rows) n b)
      (ok_behind (head_items W (row_fields rows) n b) behind_head o))

  pub in_ports : (i : Item) → Has i joined_ports → Has i is
  in_ports = in_head 0

  pub in_args : (i : Item) → Has i (arg_inputs 0 n) → Has i is
  in_args = in_head 1

  pub in_said : (i : Item) → Has i ports_said → Has i is
  in_said = in_head 2

  pub in_fields : (i : Item) → Has i (field_registers (row_fields rows)) → Has i is
  in_fields = in_head 3

  pub in_sigs : (i : Item) → Has i (pointer_registers (W.place + W.tag) sig_name 0 W.sigs) → Has i is
  in_sigs = in_head 5

  pub in_boxes : (i : Item) → Has i (pointer_registers (W.place + W.tag) box_name 0 W.boxes) → Has i is
  in_boxes = in_head 6

  pub in_held : (i : Item) → Has i (held_regs 0 n) → Has i is
  in_held = in_head 7

  pub in_store : (i : Item) → Has i (store_registers W) → Has i is
  in_store = in_head 8

  pub in_unit : (i : Item) → Has i (unit_registers b) → Has i is
  in_unit = in_head 9

  pub in_words : (i : Item) → Has i (pointer_parts (W.place + W.tag) "cell_has" word_name 0 0 W.words) → Has i is
  in_words = in_middle 1

  pub in_fork_boxes : (i : Item) → Has i (pointer_parts (W.place + W.tag) "fork_has" fork_box_name W.place 0 W.saved) → Has i is
  in_fork_boxes = in_middle 2

  pub in_place : (i : Item) → Has i (place_wires W) → Has i is
  in_place = in_middle 3

  pub in_slots : (i : Item) → Has i (slot_wires W.place W.tag rows (all_slots rows)) → Has i is
  in_slots = in_middle 4

  pub in_found : (i : Item) → Has i (found_registers (row_fields rows)) → Has i is
  in_found = in_middle 6

  pub in_find : (i : Item) → Has i (find_items W start rows (row_fields rows)) → Has i is
  in_find = in_middle 7

  pub in_operands : (i : Item) → Has i (operand_wires_of b (input_expr rows first_input) (input_expr rows second_input)) → Has i is
  in_operands = in_last 1

  pub in_wires : (i : Item) → Has i (unit_wires b) → Has i is
  in_wires = in_last 2

  pub in_rest : (i : Item) → Has i (rest_wires W) → Has i is
  in_rest = in_last 3

  pub in_clock : (i : Item) → Has i (clock_items W (row_fields rows) n b) → Has i is
  in_clock = in_last 4
