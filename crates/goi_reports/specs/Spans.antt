-- The report of a run in rounds, as its bytes: the two lines of a run, how many rounds there were and how wide the widest was, and then
-- what is asked for. It says nothing of what rounds are: it is given tickets and widths.
use Rattle.std.specs.Prelude.{ℕ, suc, ◌+◌, Bool, List, [], ◌∷◌, ◌++◌, length, take, Option, codes, decimal}
use Rattle.pcf_values.specs.declared.val.Val.{Val}
use Rattle.schedule_log.specs.Runs.{schedule_text}
use Rattle.goi_reports.specs.Lines.{numbered_line, result_lines}
use Rattle.goi_reports.specs.Reports.{where_asked}

-- so many rounds are told at the most, each on a line
abbrev pub most_rounds : ℕ
most_rounds = 100000

-- the line of a round: its number, how many tokens were live before it, and how many moves there were behind it
abbrev pub round_line : ℕ → ℕ → ℕ → List ℕ
round_line k live moves = codes "round " ++ (decimal k ++ (codes " live " ++ (decimal live ++ numbered_line (codes " moves ") moves)))

-- the lines of rounds of these widths, the first of which has this number and comes behind so many moves
abbrev pub round_lines : ℕ → ℕ → List ℕ → List ℕ
round_lines k moves [] = []
round_lines k moves (live ∷ widths) = round_line k live (moves + live) ++ round_lines (suc k) (moves + live) widths

-- the lines of all rounds, or of the first ones, counted from 1
abbrev pub profile_text : List ℕ → List ℕ
profile_text widths = round_lines 1 0 (take most_rounds widths)

-- what is asked for of rounds of these tickets and these widths: each round, and then the schedule
abbrev pub asked_rounds : List ℕ → List ℕ → Bool → Bool → List ℕ
asked_rounds tickets widths profile schedule =
    where_asked profile (profile_text widths) ++ where_asked schedule (schedule_text tickets)

-- the lines of rounds: their number, and how wide the widest was
abbrev pub rounds_lines : ℕ → ℕ → List ℕ
rounds_lines rounds widest = numbered_line (codes "rounds ") rounds ++ numbered_line (codes "widest ") widest

-- the report of so many rounds with this answer, or none, of these tickets and these widths, of which this is the greatest
abbrev pub span_report : Option Val → ℕ → List ℕ → List ℕ → ℕ → Bool → Bool → List ℕ
span_report answer rounds tickets widths widest profile schedule =
    result_lines answer (length tickets) ++ (rounds_lines rounds widest ++ asked_rounds tickets widths profile schedule)
