-- The views: what the code's fields, groups of names, slots and widths stand for.
use Rattle.std.specs.Prelude.{ℕ, ◌<◌, ◌≤◌, ◌^◌, List}
use Prim.Native.String.{String}
use Rattle.joined_core.specs.Circuit.{Room}
use Rattle.verilog_tree.specs.Names.{text_of}
use Rattle.verilog_tree.specs.Views.{width_of}
use Rattle.joined_module.specs.Names.{arg_name, held_name, sig_name, box_name, word_name, fork_box_name, next_sig_name, next_box_name}
use Rattle.joined_module.specs.Names.{open_box_name, new_word_name}
use Rattle.joined_module.specs.Rows.{ModuleRow}
use Rattle.joined_module.specs.Fields as fields
use Rattle.joined_module.specs.Module as whole
use Rattle.joined_data.specs.Figures.{figure_at}
use Rattle.joined_fields.specs.declared.names.Group.{Group}
use Rattle.joined_fields.specs.declared.names.Group.TheVariants as group
use Rattle.joined_fields.specs.declared.slots.SlotKind.{SlotKind}
use Rattle.joined_fields.specs.declared.slots.SlotKind.TheVariants as kind
use Rattle.joined_fields.specs.declared.fields.Field.{Field}
use Rattle.joined_fields.specs.declared.widths.Widths.{Widths}

-- the names of a group
abbrev pub group_name : Group → ℕ → String
group_name group.Arg = arg_name
group_name group.Held = held_name
group_name group.Sig = sig_name
group_name group.Boxed = box_name
group_name group.Word = word_name
group_name group.ForkBox = fork_box_name
group_name group.NextSig = next_sig_name
group_name group.NextBox = next_box_name
group_name group.OpenBox = open_box_name
group_name group.NewWord = new_word_name

-- the slots of a list
abbrev pub kind_slot : SlotKind → ℕ → fields.Slot
kind_slot kind.Sigs = fields.sig_slot
kind_slot kind.Boxes = fields.box_slot
kind_slot kind.Opened = fields.open_slot
kind_slot kind.Words = fields.word_slot

-- a field
abbrev pub field_view : Field → fields.Field
field_view f = record {
  title = text_of f.title.now;
  bits = f.bits;
  wide = width_of f.wide;
  idle = f.idle;
  at = figure_at f.says;
}

-- widths
abbrev pub widths_view : Widths → whole.Widths
widths_view w = record {
  place = w.place;
  tag = w.tag;
  key = w.key;
  depth = w.depth;
  cells = w.cells;
  forks = w.forks;
  sigs = w.sigs;
  boxes = w.boxes;
  saved = w.saved;
  words = w.words;
}

abbrev pub room_of : (cells forks : ℕ) → Room
room_of c f = record { cells = c; forks = f }

-- a table's rows and the key at which its run begins
abbrev pub table_of : List ModuleRow → ℕ → whole.ModuleTable
table_of rows start = record { rows = rows; start = start }

-- widths that the code's numbers have room for
abbrev pub Narrow : whole.Widths → Type 0
Narrow W =
    (W.place ≤ 64) × ((W.tag ≤ 64) × ((W.sigs < 2 ^ 31) × ((W.boxes < 2 ^ 31) × ((W.saved < 2 ^ 31) × (W.words < 2 ^ 31)))))
