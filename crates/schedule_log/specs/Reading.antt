-- How a schedule text is read line by line: each line by the digits with which it begins, and by what stands behind them.
use Rattle.std.specs.Prelude.{◌≡◌, ◌⊎◌, ℕ, suc, ◌+◌, ◌^◌, Bool, true, false, not, ◌&&◌, List, [], ◌∷◌}
use Rattle.std.specs.Prelude.{length, drop, Option, Some}
use Rattle.std.specs.Prelude.{None, Result, Ok, Err, codes, nat_eq, nat_lt, nat_le, if◌then◌else◌}
use Rattle.std.specs.Str.{bytes_eq}
use Rattle.std.specs.Str.Parse.{digits_value}
use Rattle.pcf_values.specs.Most.{most_moves, most_schedule_bytes}
use Rattle.text_lines.specs.Digits.{behind, digits_in, is_number}
use Rattle.schedule_log.specs.declared.fault.ScheduleFault.{ScheduleFault}
use Rattle.schedule_log.specs.declared.fault.ScheduleFault.TheVariants.{NoMemory, BadHeader, BadLine, TicketTooWide, NoEnd, TooLong}
use Rattle.schedule_log.specs.declared.version.Version.{Version}
use Rattle.schedule_log.specs.declared.version.Version.TheVariants.{One, Two}
use Rattle.text_lines.specs.Lines.{end_line, lines}
use Rattle.schedule_log.specs.Schedules.{Run, header, moves, tickets_of}

-- the digits of the count, behind the ticket and one byte
abbrev pub count_in : List ℕ → List ℕ
count_in l = digits_in (drop 1 (behind l))

-- the run that the line stands for, if it is a move line
abbrev pub run_in : Version → List ℕ → Run
run_in One l = record { ticket = digits_value 10 (digits_in l); count = 1 }
run_in Two l = record { ticket = digits_value 10 (digits_in l); count = digits_value 10 (count_in l) }

-- what stands behind a ticket is a space and a count of 1 or more
abbrev pub is_count : List ℕ → Bool
is_count [] = false
is_count (b ∷ bs) =
    nat_eq b 32 && (is_number (digits_in bs) && (bytes_eq (behind bs) (codes "\n") && nat_le 1 (digits_value 10 (digits_in bs))))

-- the line is a move line of the version
abbrev pub is_move_line : Version → List ℕ → Bool
is_move_line One l = is_number (digits_in l) && bytes_eq (behind l) (codes "\n")
is_move_line Two l = is_number (digits_in l) && is_count (behind l)

-- the ticket may stand behind that of the move line before it
abbrev pub may_follow : Version → Option ℕ → ℕ → Bool
may_follow One p t = true
may_follow Two None t = true
may_follow Two (Some p) t = not (nat_eq t p)

-- nothing may follow the last line
abbrev pub ended : ℕ → List (List ℕ) → Result (List Run) ScheduleFault
ended n [] = Ok []
ended n (l ∷ ls) = Err (BadLine (suc n))

-- a run in front of what the lines behind it are read as
abbrev pub with_run : Run → Result (List Run) ScheduleFault → Result (List Run) ScheduleFault
with_run r (Ok rs) = Ok (r ∷ rs)
with_run r (Err f) = Err f

-- a line that isn't `end`: what it is, the run it stands for, and what the lines behind it are
abbrev pub judged : Bool → ℕ → ℕ → Run → Result (List Run) ScheduleFault → Result (List Run) ScheduleFault
judged b m n r s =
    if b then
    (if nat_lt r.ticket (2 ^ 32) then
    (if nat_le (m + r.count) most_moves then with_run r s else Err (TooLong n))
    else Err (TicketTooWide n))
    else Err (BadLine n)

-- the runs of the lines from line n on, behind m moves and a move line with the ticket p
abbrev pub runs_from : Version → Option ℕ → ℕ → ℕ → List (List ℕ) → Result (List Run) ScheduleFault
runs_from v p m n [] = Err NoEnd
runs_from v p m n (l ∷ ls) =
    if bytes_eq l end_line then ended n ls
    else judged (is_move_line v l && may_follow v p (run_in v l).ticket) m n (run_in v l)
    (runs_from v (Some (run_in v l).ticket) (m + (run_in v l).count) (suc n) ls)

-- the tickets of runs, or the fault
abbrev pub only_tickets : Result (List Run) ScheduleFault → Result (List ℕ) ScheduleFault
only_tickets (Ok rs) = Ok (tickets_of rs)
only_tickets (Err f) = Err f

-- the runs of the lines of a text, by its first line, or the first fault
abbrev pub behind_header : List (List ℕ) → Result (List Run) ScheduleFault
behind_header [] = Err BadHeader
behind_header (l ∷ ls) =
    if bytes_eq l (header Two) then runs_from Two None 0 2 ls
    else if bytes_eq l (header One) then runs_from One None 0 2 ls
    else Err BadHeader

-- the tickets of a schedule text, or its first fault
abbrev pub tickets_in : List ℕ → Result (List ℕ) ScheduleFault
tickets_in bytes = if nat_le (length bytes) most_schedule_bytes then only_tickets (behind_header (lines bytes)) else Err (TooLong 0)

-- line n by itself: the run that it stands for, or its fault
abbrev pub judged_line : Version → Option ℕ → ℕ → ℕ → List ℕ → Result Run ScheduleFault
judged_line v p m n l =
    if is_move_line v l && may_follow v p (run_in v l).ticket then
    (if nat_lt (run_in v l).ticket (2 ^ 32) then
    (if nat_le (m + (run_in v l).count) most_moves then Ok (run_in v l) else Err (TooLong n))
    else Err (TicketTooWide n))
    else Err (BadLine n)

-- how many moves runs are with those before them, or the fault
abbrev pub counted : ℕ → Result (List Run) ScheduleFault → Result ℕ ScheduleFault
counted m (Ok rs) = Ok (m + moves rs)
counted m (Err f) = Err f

-- the runs, where there is no fault
abbrev pub runs_or_none : Result (List Run) ScheduleFault → List Run
runs_or_none (Ok rs) = rs
runs_or_none (Err f) = []

-- the second is what the first says, or want of memory
abbrev pub MaybeRead : Result (List ℕ) ScheduleFault → Result (List ℕ) ScheduleFault → Type 0
MaybeRead s r = (r ≡ Err NoMemory) ⊎ (s ≡ r)
