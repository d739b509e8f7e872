-- Fields and measures of rows: what each slot, operand, flag and figure of the code says of a row.
use Rattle.std.specs.Prelude.{ℕ, ◌&&◌, Bool, max, Option, Some, None, length, map}
use Rattle.verilog_tree.specs.Meaning.{flag}
use Rattle.joined_module.specs.Rows.{ModuleRow, opened_boxes, row_words_read}
use Rattle.joined_module.specs.Fields.{Slot, sig_slot, box_slot, open_slot, word_slot, looked_slot, place_or, from_place, kind_of_from}
use Rattle.joined_module.specs.Fields.{tag_or, seen_tag, Input, first_input, second_input, operand_number, number_or, is_kept}
use Rattle.joined_module.specs.Fields.{kept_operand, needs_value, tests_value, sees_later, takes_operand, makes_number, subtracts_in}
use Rattle.joined_module.specs.Fields.{multiplies_in, opens_fork, opens_above, closes_fork, answers_in}
use Rattle.joined_data.specs.Views.{origin_view, operand_view}
use Rattle.joined_data.specs.declared.origins.Slot as declared
use Rattle.joined_data.specs.declared.origins.Slot.TheVariants as slot
use Rattle.joined_data.specs.declared.operands.Side.{Side}
use Rattle.joined_data.specs.declared.operands.Side.TheVariants as side
use Rattle.joined_data.specs.declared.flags.Flag.{Flag}
use Rattle.joined_data.specs.declared.flags.Flag.TheVariants as flags
use Rattle.joined_data.specs.declared.figures.Figure.{Figure}
use Rattle.joined_data.specs.declared.figures.Figure.TheVariants as figure

-- a slot
abbrev pub slot_view : declared.Slot → Slot
slot_view (slot.Sig i) = sig_slot i
slot_view (slot.Boxed i) = box_slot i
slot_view (slot.Open i) = open_slot i
slot_view (slot.Word i) = word_slot i
slot_view slot.Looked = looked_slot

-- an operand of the unit
abbrev pub input_view : Side → Input
input_view side.First = first_input
input_view side.Second = second_input

-- a flag
abbrev pub flag_at : Flag → ModuleRow → Bool
flag_at flags.Waits = λ r. r.waits
flag_at flags.Later = sees_later
flag_at flags.Tests = tests_value
flag_at flags.Needs = needs_value
flag_at flags.Ends = λ r. r.ends
flag_at flags.Makes = λ r. r.makes
flag_at flags.Opens = λ r. opens_fork r.fork
flag_at flags.Above = λ r. opens_above r.fork
flag_at flags.Keeps = λ r. is_kept (kept_operand r.fork)
flag_at flags.Closes = λ r. closes_fork r.fork
flag_at flags.Touches = λ r. answers_in r.fork
flag_at flags.Takes = λ r. takes_operand r.worth
flag_at flags.Computes = λ r. makes_number r.worth
flag_at flags.Subtracts = λ r. subtracts_in r.worth
flag_at flags.Multiplies = λ r. multiplies_in r.worth

-- a number of a row
abbrev pub figure_at : Figure → ModuleRow → ℕ
figure_at figure.Zero = λ r. 0
figure_at figure.To = λ r. r.to
figure_at figure.Reach = λ r. max r.to r.key
figure_at figure.Moves = λ r. r.moves
figure_at (figure.Told f) = λ r. flag (flag_at f r)
figure_at figure.Sigs = λ r. length r.sigs
figure_at figure.Boxes = λ r. length r.boxes
figure_at figure.Opened = λ r. length (opened_boxes r.fork)
figure_at figure.Words = row_words_read
figure_at figure.Seen = seen_tag
figure_at (figure.SlotPlace s ks) = λ r. place_or 0 (λ t. from_place (map origin_view ks.now) (kind_of_from t)) ((slot_view s).source r)
figure_at (figure.SlotTag s t) = λ r. tag_or t ((slot_view s).source r)
figure_at (figure.InputPlace s ks) = λ r. operand_number (map operand_view ks.now) ((input_view s).source r)
figure_at (figure.InputNumber s n) = λ r. number_or n ((input_view s).source r)
