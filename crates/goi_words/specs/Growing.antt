-- What the code has on the way: a subcommand with its first arguments, an argument of it, and a job whose texts are lent. The contracts
-- of private functions cite it. It serves the prover alone.
use Rattle.std.specs.Prelude.{◌≡◌, List, false, [], ◌∷◌}
use Rattle.clap.specs.Words.{App, Rule, Shape, app_of, with_subcommand}
use Rattle.clap.specs.declared.builder.command.Command.{Command}
use Rattle.clap.specs.declared.builder.command.Command.TheViews.{out-Command}
use Rattle.goi_words.specs.Commands.{CommandRow, batch_row, call_row, check_row, circuit_row, demo_row, net_row, replay_row, run_net_row}
use Rattle.goi_words.specs.Commands.{flag, number_option, operand, ranged_operand, run_row, span_row, steps_row, subcommand, text_option}
use Rattle.goi_words.specs.Commands.{trace_row, wide_operand}
use Rattle.goi_words.specs.declared.commands.Name.{Name}
use Rattle.goi_words.specs.declared.commands.Name.TheVariants.{Batch, Call, Check, Circuit, Demo, Net, Replay, Run, RunNet, Span}
use Rattle.goi_words.specs.declared.commands.Name.TheVariants.{Steps, Trace}
use Rattle.goi_jobs.specs.Jobs.{JobTree, demo, list, replay, text, verilog}
use Rattle.goi_words.specs.declared.reading.Lent.{Lent}
use Rattle.goi_words.specs.declared.reading.Lent.TheVariants as lent
use Rattle.goi_words.specs.declared.commands.Argument.{Argument}
use Rattle.goi_words.specs.declared.commands.Argument.TheVariants.{Named, Number, Numbered, Numbers, Switch, Text}

-- the command of the code is this subcommand
abbrev pub IsCommand : Shape → Command → Type 0
IsCommand shape c = (app_of c ≡ record { top = shape; subs = [] }) × ((out-Command c).has_globals ≡ false)

-- the rule of an argument of the code
abbrev pub rule_of_argument : Argument → Rule
rule_of_argument (Text name) = operand name.now
rule_of_argument (Number name least most) = ranged_operand name.now least most
rule_of_argument (Numbers name) = wide_operand name.now
rule_of_argument (Switch name) = flag name.now
rule_of_argument (Numbered name least most default) = number_option name.now least most default.now
rule_of_argument (Named name default) = text_option name.now default.now

-- the row of a command of the code
abbrev pub row_of : Name → CommandRow
row_of Run = run_row
row_of Check = check_row
row_of Net = net_row
row_of Replay = replay_row
row_of Demo = demo_row
row_of RunNet = run_net_row
row_of Batch = batch_row
row_of Trace = trace_row
row_of Circuit = circuit_row
row_of Span = span_row
row_of Steps = steps_row
row_of Call = call_row

-- all of them
abbrev pub all_names : List Name
all_names =
    Run ∷ Check ∷ Net ∷ Replay ∷ Demo ∷ RunNet ∷ Batch ∷ Trace ∷ Circuit ∷ Span ∷ Steps ∷ Call ∷ []

-- a program with the command of this name
abbrev pub with_named : App → Name → App
with_named app name = with_subcommand app (subcommand (row_of name))

-- the job that one whose texts are lent comes to
abbrev pub lent_tree : Lent → JobTree
lent_tree (lent.Text file workers task) = text file.now workers task
lent_tree (lent.Replay file schedule window) = replay file.now schedule.now window
lent_tree (lent.List file workers) = list file.now workers
lent_tree (lent.Demo n workers) = demo n workers
lent_tree (lent.Verilog file name v) = verilog file.now name.now v
