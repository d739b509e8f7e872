-- The text of a schedule in version 2: its tickets as longest runs of one ticket, a line a run.
use Rattle.std.specs.Prelude.{ℕ, suc, List, [], ◌∷◌, ◌++◌, codes, decimal, nat_eq, if◌then◌else◌}
use Rattle.text_lines.specs.Lines.{joined}
use Rattle.schedule_log.specs.declared.version.Version.TheVariants.{Two}
use Rattle.text_lines.specs.Lines.{end_line}
use Rattle.schedule_log.specs.Schedules.{Run, header}

-- one more move of this ticket in front of runs
abbrev pub with_ticket : ℕ → List Run → List Run
with_ticket t [] = record { ticket = t; count = 1 } ∷ []
with_ticket t (r ∷ rs) =
    if nat_eq t r.ticket then record { ticket = r.ticket; count = suc r.count } ∷ rs
    else record { ticket = t; count = 1 } ∷ (r ∷ rs)

-- the longest runs of one ticket, in order
abbrev pub runs_of : List ℕ → List Run
runs_of [] = []
runs_of (t ∷ ts) = with_ticket t (runs_of ts)

-- the line of a run: its ticket, a space and its count
abbrev pub run_line : Run → List ℕ
run_line r = decimal r.ticket ++ (codes " " ++ (decimal r.count ++ codes "\n"))

-- the lines of runs, and the last line
abbrev pub run_lines : List Run → List (List ℕ)
run_lines [] = end_line ∷ []
run_lines (r ∷ rs) = run_line r ∷ run_lines rs

-- the text of these tickets
abbrev pub schedule_text : List ℕ → List ℕ
schedule_text tickets = joined (header Two ∷ run_lines (runs_of tickets))
