-- Whether a table fits its module: counts and widths are numbers that tools take, each field has 64 bits at most, and what a row names is
-- there. It is so of each table of a program, unless that is larger than any text.
use Rattle.std.specs.Prelude.{ℕ, ◌+◌, ◌^◌, Bool, true, false, not, ◌&&◌, ◌||◌, List, [], ◌∷◌, length, Option, Some, None}
use Rattle.std.specs.Prelude.{is_some, nat_lt, nat_le}
use Rattle.joined_core.specs.Circuit.{Room}
use Rattle.verilog_tree.specs.WellFormed.{small}
use Rattle.joined_module.specs.Rows.{From, from_sig, from_box, from_fork, from_word, part_of_sig, part_of_box, Operand, the_kept, a_literal}
use Rattle.joined_module.specs.Rows.{a_port}
use Rattle.joined_module.specs.Rows.{ModuleRow, row_looks, opened_boxes}
use Rattle.joined_module.specs.Fields.{Field, first_operand, second_operand, row_fields, makes_number, is_kept, kept_operand, answers_in}
use Rattle.joined_module.specs.Machine.{has_cell}
use Rattle.joined_module.specs.Module.{ModuleTable, found_rows, Widths, widths, cell_width, fork_width}

-- a source is one of those that are declared
abbrev pub source_within : Widths → From → Bool
source_within W (from_sig i) = nat_lt i W.sigs
source_within W (from_box i) = nat_lt i W.boxes
source_within W (from_fork i) = nat_lt i W.saved
source_within W (from_word i) = nat_lt i W.words
source_within W (part_of_sig t) = nat_lt 0 W.sigs
source_within W (part_of_box t) = nat_lt 0 W.boxes
source_within W s = true

abbrev pub sources_within : Widths → List From → Bool
sources_within W [] = true
sources_within W (s ∷ ss) = source_within W s && sources_within W ss

abbrev pub option_within : Widths → Option From → Bool
option_within W None = true
option_within W (Some s) = source_within W s

-- a number has 64 bits at most, and a port is one of so many
abbrev pub operand_within : (ports : ℕ) → Option Operand → Bool
operand_within n (Some (a_literal m)) = nat_lt m (2 ^ 64)
operand_within n (Some (a_port i)) = nat_lt i n
operand_within n x = true

-- all that a row names is there
abbrev pub row_within : Widths → (ports : ℕ) → ModuleRow → Bool
row_within W n r =
    (sources_within W r.sigs && sources_within W r.boxes) && ((sources_within W r.words && sources_within W (opened_boxes r.fork)) &&
    (option_within W (row_looks r) && ((operand_within n (first_operand r) && operand_within n (second_operand r)) && nat_lt r.moves 256)))

-- a row takes something of the innermost fork
abbrev pub is_fork_source : From → Bool
is_fork_source (from_fork i) = true
is_fork_source s = false

abbrev pub takes_fork : List From → Bool
takes_fork [] = false
takes_fork (s ∷ ss) = is_fork_source s || takes_fork ss

abbrev pub is_kept_operand : Option Operand → Bool
is_kept_operand (Some the_kept) = true
is_kept_operand x = false

abbrev pub row_takes_fork : ModuleRow → Bool
row_takes_fork r =
    takes_fork r.sigs || (takes_fork r.boxes || (takes_fork r.words || (takes_fork (opened_boxes r.fork) ||
    (is_kept_operand (first_operand r) || is_kept_operand (second_operand r)))))

abbrev pub looks_somewhere : ModuleRow → Bool
looks_somewhere r = not (has_cell r.site) || is_some (row_looks r)

-- a new cell has as many words as are read; a number and a kept answer aren't in one row; only a row that answers a fork takes anything of
-- it; and what is looked at next is there
abbrev pub row_sound : Widths → ModuleRow → Bool
row_sound W r =
    (not r.makes || nat_le W.words (length r.words)) && (not (makes_number r.worth && is_kept (kept_operand r.fork)) &&
    ((not (row_takes_fork r) || answers_in r.fork) && looks_somewhere r))

abbrev pub each_within : Widths → (ports : ℕ) → List ModuleRow → Bool
each_within W n [] = true
each_within W n (r ∷ rs) = (row_within W n r && row_sound W r) && each_within W n rs

-- fields of 64 bits at most
abbrev pub fields_small : List Field → Bool
fields_small [] = true
fields_small (f ∷ fs) = nat_le f.bits 64 && fields_small fs

-- counts and widths
abbrev pub counts_fit : Widths → (ports rows : ℕ) → Bool
counts_fit W n k =
    ((small n && small k) && (small W.cells && small W.forks)) && ((small W.sigs && small W.boxes) && (small W.saved && small W.words))

abbrev pub widths_fit : Widths → Bool
widths_fit W = (small (W.place + W.tag) && small W.depth) && (small (cell_width W) && small (fork_width W))

abbrev pub rows_fit_module : Widths → (start ports : ℕ) → List ModuleRow → Bool
rows_fit_module W start n rows =
    (counts_fit W n (length rows) && widths_fit W) && ((nat_lt start (2 ^ W.key) && fields_small (row_fields rows)) && each_within W n rows)

-- the table fits, with so many cells and forks and so many ports
abbrev pub module_fits : ModuleTable → Room → (ports : ℕ) → Bool
module_fits T z n = rows_fit_module (widths (found_rows T.rows) z) T.start n (found_rows T.rows)
