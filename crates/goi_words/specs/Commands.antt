-- The table of commands, and the command line that it makes, as the argument of `clap`'s definition.
-- A command has its name, its operands, its options, and the job that its arguments make. There is one level
-- of subcommands, and no option has a rule of `clap`'s on another, so that `clap`'s definition says exactly which words are taken and what
-- was found. Help is switched off: the words for it are unknown words and are refused as such. What is added later stands at the end of
-- its list.
use Rattle.std.specs.Prelude.{◌≡◌, ℕ, Bool, true, false, not, ◌||◌, pos, List, [], ◌∷◌, ◌++◌, Option, None, Some, if◌then◌else◌, codes, map}
use Rattle.std.specs.List.{list_all, list_any}
use Rattle.std.specs.Str.{bytes_eq}
use Rattle.clap.specs.Words.{App, Rule, Shape, Text, new_rule}
use Rattle.clap.specs.Lexer.{usize_max}
use Rattle.clap.specs.Simple.{new_shape}
use Rattle.pcf_values.specs.Most.{most_workers, most_budget, most_demo, most_moves}
use Rattle.goi_jobs.specs.Limits.{most_traced, most_told, most_cells, most_forks}
use Rattle.goi_jobs.specs.Jobs.{JobTree, text, replay, list, demo, call, verilog}
use Rattle.goi_jobs.specs.Tasks.{shown}
use Rattle.goi_jobs.specs.declared.task.Task.TheVariants.{Run, Check, ShowNet, RunNet, Trace, Span, Steps}
use Rattle.goi_jobs.specs.declared.verilog.Verilog.{Verilog}
use Rattle.goi_jobs.specs.declared.verilog.Verilog.TheVariants as printed
use Rattle.goi_jobs.specs.declared.window.Window.{Window}
use Rattle.program_runs.specs.Programs.{calling_of}
use Rattle.program_runs.specs.declared.calling.Calling.{Calling}
use Rattle.verilog_names.specs.Name.{module_name}
use Rattle.clap.specs.declared.builder.action.ArgAction.TheVariants.{Set, SetTrue}
use Rattle.clap.specs.declared.builder.value_parser.ValueParser.TheVariants as parser
use Rattle.goi_words.specs.Findings.{Findings, ◌>>=◌}

-- ---- what a command is

-- an argument that stands at its place behind the command
pub data Operand : Type 0 where
  -- any text, which has to be there: its name
  a_text : Text → Operand
  -- a number, which has to be there: its name, the least and the most
  a_number : Text → ℕ → ℕ → Operand
  -- any number of numbers of 64 bits, and none where it isn't given; nothing stands behind it
  some_numbers : Text → Operand

-- an argument that is called by its name
pub data Choice : Type 0 where
  -- `--name`, which is given or not
  switch : Text → Choice
  -- `--name N`: the least and the most, and the text that stands for it where it isn't given
  numbered : Text → ℕ → ℕ → Text → Choice
  -- `--name M`, with the name of a module: the name that stands for it where it isn't given
  named : Text → Text → Choice

-- a command: its name, its operands in their order, its options, and the job that its arguments make
pub record CommandRow : Type 0 where
  pub name : Text
  pub operands : List Operand
  pub choices : List Choice
  pub job : Findings → Option JobTree

-- the name of an argument
abbrev pub operand_name : Operand → Text
operand_name (a_text name) = name
operand_name (a_number name least most) = name
operand_name (some_numbers name) = name

abbrev pub choice_name : Choice → Text
choice_name (switch name) = name
choice_name (numbered name least most default) = name
choice_name (named name default) = name

-- ---- the same for `clap`

-- an operand: any text, and it has to be there
abbrev pub operand : Text → Rule
operand name = record (new_rule name) { action = Some Set; required = true }

-- an operand that is a number in a range
abbrev pub ranged_operand : Text → ℕ → ℕ → Rule
ranged_operand name least most = record (operand name) { parser = Some (parser.Signed (pos least) (pos most)) }

-- an operand of any number of numbers of 64 bits, and of none where it isn't given
abbrev pub wide_operand : Text → Rule
wide_operand name = record (new_rule name) {
  action = Some Set;
  range = Some (record { start_inclusive = 1; end_inclusive = usize_max });
  parser = Some (parser.Unsigned 0 18446744073709551615);
}

-- an option `--name N`, with a number in a range, and what it is where it isn't given
abbrev pub number_option : Text → ℕ → ℕ → Text → Rule
number_option name least most default = record (new_rule name) {
  long = Some name;
  action = Some Set;
  parser = Some (parser.Signed (pos least) (pos most));
  defaults = default ∷ [];
}

-- an option `--name TEXT`, and what it is where it isn't given
abbrev pub text_option : Text → Text → Rule
text_option name default = record (new_rule name) { long = Some name; action = Some Set; defaults = default ∷ [] }

-- an option `--name` that is given or not
abbrev pub flag : Text → Rule
flag name = record (new_rule name) { long = Some name; action = Some SetTrue }

-- the argument of an operand, and that of an option
abbrev pub operand_rule : Operand → Rule
operand_rule (a_text name) = operand name
operand_rule (a_number name least most) = ranged_operand name least most
operand_rule (some_numbers name) = wide_operand name

abbrev pub choice_rule : Choice → Rule
choice_rule (switch name) = flag name
choice_rule (numbered name least most default) = number_option name least most default
choice_rule (named name default) = text_option name default

-- a subcommand with its arguments
abbrev pub command : Text → List Rule → Shape
command name rules = record (new_shape name) { rules = rules }

-- the subcommand of a command
abbrev pub subcommand : CommandRow → Shape
subcommand c = command c.name (map operand_rule c.operands ++ map choice_rule c.choices)

-- ---- arguments of several commands

abbrev pub file_operand : Operand
file_operand = a_text (codes "file")

-- the number of workers
abbrev pub workers_choice : Choice
workers_choice = numbered (codes "workers") 1 most_workers (codes "1")

-- the most moves
abbrev pub budget_choice : Choice
budget_choice = numbered (codes "budget") 1 most_budget (codes "10000")

-- the entry with which a trace begins, and the step with which a reduction is told
abbrev pub from_choice : Choice
from_choice = numbered (codes "from") 0 most_moves (codes "0")

-- the most moves of a trace
abbrev pub most_choice : Choice
most_choice = numbered (codes "most") 1 most_traced (codes "100000")

-- the most steps of a reduction that are told, under the same name
abbrev pub told_choice : Choice
told_choice = numbered (codes "most") 1 most_told (codes "1000")

-- the options of `circuit`: its cells
abbrev pub cells_choice : Choice
cells_choice = numbered (codes "cells") 1 most_cells (codes "1023")

-- its forks
abbrev pub forks_choice : Choice
forks_choice = numbered (codes "forks") 1 most_forks (codes "63")

-- the name of its module
abbrev pub name_choice : Choice
name_choice = named (codes "name") (codes "goi")

-- the flags
abbrev pub schedule_choice : Choice
schedule_choice = switch (codes "schedule")

abbrev pub tally_choice : Choice
tally_choice = switch (codes "tally")

abbrev pub by_value_choice : Choice
by_value_choice = switch (codes "by-value")

-- the part of a trace or of a reduction that was found
abbrev pub window_of : Findings → Option Window
window_of found = do
  from ← found.number (codes "from")
  most ← found.number (codes "most")
  Some (record { from = from; most = most })

-- by name, or by value where that was found
abbrev pub calling_in : Findings → Calling
calling_in found = calling_of (found.is_set (codes "by-value"))

-- a part of a trace, where a trace is asked for
abbrev pub if_traced : Bool → Window → Option Window
if_traced is_traced window = if is_traced then Some window else None

-- a text, where it may name a module
abbrev pub if_module_name : Text → Option Text
if_module_name name = if module_name name then Some name else None

-- the name of a circuit's module that was found, where it is one
abbrev pub name_in : Findings → Option Text
name_in found = found.text (codes "name") >>= if_module_name

-- ---- what `circuit` prints

-- its options
abbrev pub circuit_choices : List Choice
circuit_choices = cells_choice ∷ forks_choice ∷ budget_choice ∷ switch (codes "run") ∷ switch (codes "vcd") ∷ switch (codes "needs")
    ∷ schedule_choice ∷ name_choice ∷ switch (codes "handshake") ∷ switch (codes "bench") ∷ []

-- what is asked for by the flag of one of these, and else the circuit itself
abbrev pub circuit_asked : Findings → (cells forks budget : ℕ) → Verilog
circuit_asked found cells forks budget =
    if found.is_set (codes "run") then printed.Run cells forks budget
    else (if found.is_set (codes "vcd") then printed.Waves cells forks budget
    else (if found.is_set (codes "bench") then printed.Bench budget
    else (if found.is_set (codes "needs") then printed.Needs budget
    else (if found.is_set (codes "schedule") then printed.Schedule budget
    else printed.Circuit cells forks (found.is_set (codes "handshake"))))))

-- the same with the numbers that were found
abbrev pub circuit_in : Findings → Option Verilog
circuit_in found = do
  cells ← found.number (codes "cells")
  forks ← found.number (codes "forks")
  budget ← found.number (codes "budget")
  Some (circuit_asked found cells forks budget)

-- the options that each has a use for, its own flag among them
abbrev pub uses : Verilog → List Text
uses (printed.Circuit cells forks handshake) = codes "cells" ∷ codes "forks" ∷ codes "name" ∷ codes "handshake" ∷ []
uses (printed.Run cells forks budget) = codes "run" ∷ codes "cells" ∷ codes "forks" ∷ codes "budget" ∷ []
uses (printed.Waves cells forks budget) = codes "vcd" ∷ codes "cells" ∷ codes "forks" ∷ codes "budget" ∷ []
uses (printed.Bench budget) = codes "bench" ∷ codes "name" ∷ codes "budget" ∷ []
uses (printed.Needs budget) = codes "needs" ∷ codes "budget" ∷ []
uses (printed.Schedule budget) = codes "schedule" ∷ codes "budget" ∷ []

-- an option isn't given, or it has a use for it
abbrev pub goes_with : Findings → Verilog → Text → Bool
goes_with found asked name = not (found.is_given name) || list_any (bytes_eq name) (uses asked)

-- and so is each option
abbrev pub all_go_with : Findings → Verilog → Bool
all_go_with found asked = list_all (λ c. goes_with found asked (choice_name c)) circuit_choices

-- what was found asks for nothing: the name is no module's, or an option is given that what is asked for has no use for
pub data IsUnfit (found : Findings) : Type 0 where
  no_module : (name : Text) → found.text (codes "name") ≡ Some name → module_name name ≡ false → IsUnfit found
  no_use : (asked : Verilog) → circuit_in found ≡ Some asked → all_go_with found asked ≡ false → IsUnfit found

-- ---- the jobs
-- `replay` reads the part of a trace always, and asks for it with `--trace` alone: `clap`'s definition has no word for an option that
-- wants another, and so doesn't refuse the part without it. `circuit` refuses a name that is no module's, and an option without use.

abbrev pub run_job : Findings → Option JobTree
run_job found = do
  file ← found.text (codes "file")
  workers ← found.number (codes "workers")
  budget ← found.number (codes "budget")
  Some (text file workers (Run budget (calling_in found)
      (shown (found.is_set (codes "schedule")) (found.is_set (codes "tally")) (found.is_set (codes "progress")))))

abbrev pub check_job : Findings → Option JobTree
check_job found = do
  file ← found.text (codes "file")
  Some (text file 1 (Check (found.is_set (codes "term"))))

abbrev pub net_job : Findings → Option JobTree
net_job found = do
  file ← found.text (codes "file")
  Some (text file 1 ShowNet)

abbrev pub replay_job : Findings → Option JobTree
replay_job found = do
  file ← found.text (codes "file")
  schedule ← found.text (codes "schedule")
  window ← window_of found
  Some (replay file schedule (if_traced (found.is_set (codes "trace")) window))

abbrev pub demo_job : Findings → Option JobTree
demo_job found = do
  n ← found.number (codes "n")
  workers ← found.number (codes "workers")
  Some (demo n workers)

abbrev pub run_net_job : Findings → Option JobTree
run_net_job found = do
  file ← found.text (codes "file")
  workers ← found.number (codes "workers")
  budget ← found.number (codes "budget")
  Some (text file workers (RunNet budget (shown (found.is_set (codes "schedule")) (found.is_set (codes "tally")) false)))

abbrev pub batch_job : Findings → Option JobTree
batch_job found = do
  file ← found.text (codes "file")
  workers ← found.number (codes "workers")
  Some (list file workers)

abbrev pub trace_job : Findings → Option JobTree
trace_job found = do
  file ← found.text (codes "file")
  workers ← found.number (codes "workers")
  budget ← found.number (codes "budget")
  window ← window_of found
  Some (text file workers (Trace budget (calling_in found) window))

abbrev pub circuit_job : Findings → Option JobTree
circuit_job found = do
  file ← found.text (codes "file")
  name ← name_in found
  asked ← circuit_in found
  if all_go_with found asked then Some (verilog file name asked) else None

abbrev pub span_job : Findings → Option JobTree
span_job found = do
  file ← found.text (codes "file")
  budget ← found.number (codes "budget")
  Some (text file 1 (Span budget (calling_in found) (found.is_set (codes "profile")) (found.is_set (codes "schedule"))))

abbrev pub steps_job : Findings → Option JobTree
steps_job found = do
  file ← found.text (codes "file")
  budget ← found.number (codes "budget")
  window ← window_of found
  Some (text file 1 (Steps budget window))

abbrev pub call_job : Findings → Option JobTree
call_job found = do
  file ← found.text (codes "file")
  workers ← found.number (codes "workers")
  budget ← found.number (codes "budget")
  numbers ← found.numbers (codes "n")
  Some (call file numbers workers budget (found.is_set (codes "schedule")) (found.is_set (codes "tally")))

-- ---- the table

abbrev pub run_row : CommandRow
run_row = record {
  name = codes "run";
  operands = file_operand ∷ [];
  choices = workers_choice ∷ budget_choice ∷ schedule_choice ∷ tally_choice ∷ by_value_choice ∷ switch (codes "progress") ∷ [];
  job = run_job;
}

abbrev pub check_row : CommandRow
check_row = record {
  name = codes "check";
  operands = file_operand ∷ [];
  choices = switch (codes "term") ∷ [];
  job = check_job;
}

abbrev pub net_row : CommandRow
net_row = record { name = codes "net"; operands = file_operand ∷ []; choices = []; job = net_job }

abbrev pub replay_row : CommandRow
replay_row = record {
  name = codes "replay";
  operands = file_operand ∷ a_text (codes "schedule") ∷ [];
  choices = switch (codes "trace") ∷ from_choice ∷ most_choice ∷ [];
  job = replay_job;
}

abbrev pub demo_row : CommandRow
demo_row = record {
  name = codes "demo";
  operands = a_number (codes "n") 0 most_demo ∷ [];
  choices = workers_choice ∷ [];
  job = demo_job;
}

abbrev pub run_net_row : CommandRow
run_net_row = record {
  name = codes "run-net";
  operands = file_operand ∷ [];
  choices = workers_choice ∷ budget_choice ∷ schedule_choice ∷ tally_choice ∷ [];
  job = run_net_job;
}

abbrev pub batch_row : CommandRow
batch_row = record {
  name = codes "batch";
  operands = file_operand ∷ [];
  choices = workers_choice ∷ [];
  job = batch_job;
}

abbrev pub trace_row : CommandRow
trace_row = record {
  name = codes "trace";
  operands = file_operand ∷ [];
  choices = workers_choice ∷ budget_choice ∷ by_value_choice ∷ from_choice ∷ most_choice ∷ [];
  job = trace_job;
}

abbrev pub circuit_row : CommandRow
circuit_row = record {
  name = codes "circuit";
  operands = file_operand ∷ [];
  choices = circuit_choices;
  job = circuit_job;
}

abbrev pub span_row : CommandRow
span_row = record {
  name = codes "span";
  operands = file_operand ∷ [];
  choices = budget_choice ∷ by_value_choice ∷ switch (codes "profile") ∷ schedule_choice ∷ [];
  job = span_job;
}

abbrev pub steps_row : CommandRow
steps_row = record {
  name = codes "steps";
  operands = file_operand ∷ [];
  choices = budget_choice ∷ from_choice ∷ told_choice ∷ [];
  job = steps_job;
}

abbrev pub call_row : CommandRow
call_row = record {
  name = codes "call";
  operands = file_operand ∷ some_numbers (codes "n") ∷ [];
  choices = workers_choice ∷ budget_choice ∷ schedule_choice ∷ tally_choice ∷ [];
  job = call_job;
}

-- all of them
abbrev pub commands : List CommandRow
commands = run_row ∷ check_row ∷ net_row ∷ replay_row ∷ demo_row ∷ run_net_row ∷ batch_row ∷ trace_row ∷ circuit_row ∷ span_row
    ∷ steps_row ∷ call_row ∷ []

-- ---- the command line

-- the program without its subcommands
abbrev pub bare_command : App
bare_command = record {
  top = record (new_shape (codes "goi")) {
    disable_help_flag = true;
    disable_help_subcommand = true;
    subcommand_required = true;
  };
  subs = [];
}

-- the program with these subcommands
abbrev pub with_commands : List Shape → App
with_commands shapes = record { top = record bare_command.top { is_leaf = false }; subs = shapes }

-- the whole command line
abbrev pub goi_command : App
goi_command = with_commands (map subcommand commands)
