-- Parts of what is asked of a table, each as `joined_module` has it.
use Rattle.std.specs.Prelude.{ℕ, ◌^◌, Bool, not, ◌&&◌, ◌||◌, List, length, nat_le, nat_lt}
use Rattle.verilog_tree.specs.WellFormed.{small}
use Rattle.joined_module.specs.Rows.{ModuleRow, opened_boxes}
use Rattle.joined_module.specs.Fields.{Field, sig_count, box_count, fork_count, word_count, first_operand, second_operand, makes_number}
use Rattle.joined_module.specs.Fields.{is_kept, kept_operand, answers_in}
use Rattle.joined_module.specs.Module.{Widths}
use Rattle.joined_module.specs.Fits.{sources_within, operand_within, is_kept_operand, row_takes_fork, fields_small}
use Rattle.joined_module.specs.Fits.{each_within}

-- what a row's lists name is there
abbrev pub lists_within : Widths → ModuleRow → Bool
lists_within W r = sources_within W r.sigs && sources_within W r.boxes

abbrev pub opened_within : Widths → ModuleRow → Bool
opened_within W r = sources_within W r.words && sources_within W (opened_boxes r.fork)

-- and what its operands name
abbrev pub operands_within : (ports : ℕ) → ModuleRow → Bool
operands_within n r = operand_within n (first_operand r) && operand_within n (second_operand r)

-- an operand is the innermost fork's
abbrev pub operands_take : ModuleRow → Bool
operands_take r = is_kept_operand (first_operand r) || is_kept_operand (second_operand r)

-- a new cell has as many words as are read
abbrev pub words_there : Widths → ModuleRow → Bool
words_there W r = not r.makes || nat_le W.words (length r.words)

-- a number and a kept answer aren't in one row
abbrev pub one_second : ModuleRow → Bool
one_second r = not (makes_number r.worth && is_kept (kept_operand r.fork))

-- only a row that answers a fork takes anything of it
abbrev pub answers_taken : ModuleRow → Bool
answers_taken r = not (row_takes_fork r) || answers_in r.fork

-- the lists of all rows are short
abbrev pub lists_small : List ModuleRow → Bool
lists_small rows = (small (sig_count rows) && small (box_count rows)) && (small (fork_count rows) && small (word_count rows))

-- what is asked of the start, of the fields and of each row
abbrev pub rows_fit : Widths → (start ports : ℕ) → List Field → List ModuleRow → Bool
rows_fit W start n fs rows = (nat_lt start (2 ^ W.key) && fields_small fs) && each_within W n rows
