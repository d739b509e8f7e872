-- The reports, as their bytes. Each is a row of lines, and every line ends with a line feed.
use Rattle.std.specs.Prelude.{ℕ, Bool, true, false, List, [], ◌++◌, length, Option, codes}
use Rattle.pcf_values.specs.declared.val.Val.{Val}
use Rattle.pcf_values.specs.Terms.{TyTree}
use Rattle.pcf_values.specs.Named.{NamedTree}
use Rattle.pcf_reader.specs.Printed.{ty_text, term_text}
use Rattle.schedule_log.specs.declared.entry.Entry.{Entry}
use Rattle.schedule_log.specs.Logs.{tickets_in_log}
use Rattle.schedule_log.specs.Runs.{schedule_text}
use Rattle.goi_reports.specs.Lines.{numbered_line, result_lines}
use Rattle.goi_reports.specs.Tallies.{tally_text}

-- the lines that an option asks for
abbrev pub where_asked : Bool → List ℕ → List ℕ
where_asked false text = []
where_asked true text = text

-- what is asked for of these moves by so many workers: the schedule, and then the tally
abbrev pub asked_lines : List Entry → ℕ → Bool → Bool → List ℕ
asked_lines moves workers schedule tally =
    where_asked schedule (schedule_text (tickets_in_log moves)) ++ where_asked tally (tally_text moves workers)

-- the report of a run by so many workers, with this answer, or none, and these moves: its two lines, and then what is asked for
abbrev pub run_report : Option Val → List Entry → ℕ → Bool → Bool → List ℕ
run_report answer moves workers schedule tally = result_lines answer (length moves) ++ asked_lines moves workers schedule tally

-- the report of a schedule of so many moves that was run
abbrev pub replay_report : Option Val → ℕ → List ℕ
replay_report answer moves = result_lines answer moves

-- the lines of the generated program of a number, whose term has so many nodes
abbrev pub demo_head : ℕ → ℕ → List ℕ
demo_head n nodes = numbered_line (codes "demo ") n ++ numbered_line (codes "nodes ") nodes

-- the report of a run of that program
abbrev pub demo_report : ℕ → ℕ → Option Val → ℕ → List ℕ
demo_report n nodes answer moves = demo_head n nodes ++ result_lines answer moves

-- the line of a program's type
abbrev pub type_line : TyTree → List ℕ
type_line A = codes "type " ++ (ty_text A ++ codes "\n")

-- the line of a program
abbrev pub term_line : NamedTree → List ℕ
term_line tree = codes "term " ++ (term_text tree ++ codes "\n")

-- a program's type, and with `term` the program
abbrev pub check_report : TyTree → Bool → NamedTree → List ℕ
check_report A term tree = type_line A ++ where_asked term (term_line tree)
