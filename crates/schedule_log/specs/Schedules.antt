-- Which bytes are the text of a schedule, and which fault of other bytes is the first.
-- A schedule text is a header, move lines and the line `end`, each with its line feed. In version 1 a move line is a ticket and stands
-- for one move; in version 2 it is a ticket, a space and a count of 1 or more, and its ticket isn't that of the move line before it.
-- A fault is told by the lines before it, which stand, and by the line at which they end: it is the least line that can't stand there.
-- Numbers are digits without leading zeros, of any length, so a ticket or a count that is too great is still a number.
use Rattle.std.specs.Prelude.{◌≡◌, ◌⊎◌, ℕ, zero, suc, ◌+◌, ◌^◌, ◌<◌, ◌≤◌, List, [], ◌∷◌, ◌++◌}
use Rattle.std.specs.Prelude.{length, Option, Some, None}
use Rattle.std.specs.Prelude.{codes, Result, Ok, Err}
use Rattle.pcf_values.specs.Most.{most_moves, most_schedule_bytes}
use Rattle.text_lines.specs.Lines.{IsEarly, end_line, lines}
use Rattle.text_lines.specs.Numbers.{Spells}
use Rattle.schedule_log.specs.declared.fault.ScheduleFault.{ScheduleFault}
use Rattle.schedule_log.specs.declared.fault.ScheduleFault.TheVariants.{NoMemory, BadHeader, BadLine, TicketTooWide, NoEnd, TooLong}
use Rattle.schedule_log.specs.declared.version.Version.{Version}
use Rattle.schedule_log.specs.declared.version.Version.TheVariants.{One, Two}

-- so many moves of one ticket
pub record Run : Type 0 where
  pub ticket : ℕ
  pub count : ℕ

-- one ticket so often, before others
abbrev pub again : ℕ → ℕ → List ℕ → List ℕ
again t zero ts = ts
again t (suc n) ts = t ∷ again t n ts

-- the tickets of runs
abbrev pub tickets_of : List Run → List ℕ
tickets_of [] = []
tickets_of (r ∷ rs) = again r.ticket r.count (tickets_of rs)

-- how many moves runs stand for
abbrev pub moves : List Run → ℕ
moves [] = 0
moves (r ∷ rs) = r.count + moves rs

-- the first line, by the version
abbrev pub header : Version → List ℕ
header One = codes "schedule 1\n"
header Two = codes "schedule 2\n"

-- a move line of version 1: a ticket, which moves once
pub record IsTicketLine (l : List ℕ) (r : Run) : Type 0 where
  pub digits : List ℕ
  pub ticket : Spells digits r.ticket
  pub once : r.count ≡ 1
  pub line : l ≡ digits ++ codes "\n"

-- a move line of version 2: a ticket, and how often it moves
pub record IsRunLine (l : List ℕ) (r : Run) : Type 0 where
  pub digits : List ℕ
  pub more : List ℕ
  pub ticket : Spells digits r.ticket
  pub count : Spells more r.count
  pub some : 1 ≤ r.count
  pub line : l ≡ digits ++ (codes " " ++ (more ++ codes "\n"))

-- this line is a move line of the version, and stands for this run
abbrev pub IsMoveLine : Version → List ℕ → Run → Type 0
IsMoveLine One l r = IsTicketLine l r
IsMoveLine Two l r = IsRunLine l r

-- The ticket may stand behind that of the move line before it, if there is one: in version 2 it is another.
abbrev pub MayFollow : Version → Option ℕ → ℕ → Type 0
MayFollow One p t = Unit {0}
MayFollow Two None t = Unit {0}
MayFollow Two (Some p) t = t ≡ p → ⊥

-- These lines are move lines that stand for these runs, behind a move line with the ticket p.
abbrev pub Stand : Version → Option ℕ → List (List ℕ) → List Run → Type 0
Stand v p [] [] = Unit {0}
Stand v p [] (r ∷ rs) = ⊥
Stand v p (l ∷ ls) [] = ⊥
Stand v p (l ∷ ls) (r ∷ rs) = IsMoveLine v l r × MayFollow v p r.ticket × Stand v (Some r.ticket) ls rs

-- each ticket has at most 32 bits
abbrev pub TicketsFit : List Run → Type 0
TicketsFit [] = Unit {0}
TicketsFit (r ∷ rs) = (r.ticket < 2 ^ 32) × TicketsFit rs

-- the ticket of the last run
abbrev pub last_ticket : Option ℕ → List Run → Option ℕ
last_ticket p [] = p
last_ticket p (r ∷ rs) = last_ticket (Some r.ticket) rs

-- A line that can't stand behind a move line with the ticket p, whatever follows: it isn't `end`, and no move line either.
pub record IsNoLine (v : Version) (p : Option ℕ) (l : List ℕ) : Type 0 where
  pub other : l ≡ end_line → ⊥
  pub none : (r : Run) → IsMoveLine v l r → MayFollow v p r.ticket → ⊥

-- a move line whose ticket has more than 32 bits
pub record IsWide (v : Version) (p : Option ℕ) (l : List ℕ) : Type 0 where
  pub run : Run
  pub is : IsMoveLine v l run
  pub follows : MayFollow v p run.ticket
  pub wide : 2 ^ 32 ≤ run.ticket

-- a move line with which m moves before it become too many
pub record IsMuch (v : Version) (p : Option ℕ) (m : ℕ) (l : List ℕ) : Type 0 where
  pub run : Run
  pub is : IsMoveLine v l run
  pub follows : MayFollow v p run.ticket
  pub fits : run.ticket < 2 ^ 32
  pub much : most_moves < m + run.count

-- The fault of line n, the first of these lines, behind m moves and a move line with the ticket p.
abbrev pub FaultHere : Version → Option ℕ → ℕ → ℕ → List (List ℕ) → ScheduleFault → Type 0
FaultHere v p m n [] f = f ≡ NoEnd
FaultHere v p m n (l ∷ ls) (BadLine k) = ((k ≡ n) × IsNoLine v p l) ⊎ ((k ≡ suc n) × IsEarly l ls)
FaultHere v p m n (l ∷ ls) (TicketTooWide k) = (k ≡ n) × IsWide v p l
FaultHere v p m n (l ∷ ls) (TooLong k) = (k ≡ n) × IsMuch v p m l
FaultHere v p m n (l ∷ ls) NoMemory = ⊥
FaultHere v p m n (l ∷ ls) BadHeader = ⊥
FaultHere v p m n (l ∷ ls) NoEnd = ⊥

-- The first fault of lines of which the first is line n, behind m moves and a move line with the ticket p: the lines before stand for
-- runs within the limits, and the next line has the fault.
pub record FirstFault (v : Version) (p : Option ℕ) (m n : ℕ) (ls : List (List ℕ)) (f : ScheduleFault) : Type 0 where
  pub before : List (List ℕ)
  pub rest : List (List ℕ)
  pub runs : List Run
  pub are : ls ≡ before ++ rest
  pub stand : Stand v p before runs
  pub tickets : TicketsFit runs
  pub few : m + moves runs ≤ most_moves
  pub fault : FaultHere v (last_ticket p runs) (m + moves runs) (n + length before) rest f

-- Lines behind m moves and a move line with the ticket p, that stand for these runs within the limits, and the line `end`.
pub record Whole (v : Version) (p : Option ℕ) (m : ℕ) (ls : List (List ℕ)) (runs : List Run) : Type 0 where
  pub before : List (List ℕ)
  pub are : ls ≡ before ++ end_line ∷ []
  pub stand : Stand v p before runs
  pub tickets : TicketsFit runs
  pub few : m + moves runs ≤ most_moves

-- The bytes are a schedule text of these tickets.
pub record IsSchedule (bytes tickets : List ℕ) : Type 0 where
  pub version : Version
  pub more : List (List ℕ)
  pub runs : List Run
  pub short : length bytes ≤ most_schedule_bytes
  pub lines_are : lines bytes ≡ header version ∷ more
  pub whole : Whole version None 0 more runs
  pub tickets_are : tickets ≡ tickets_of runs

-- no version's header begins these bytes
pub record LacksHeader (bytes : List ℕ) : Type 0 where
  pub short : length bytes ≤ most_schedule_bytes
  pub none : (v : Version) (rest : List ℕ) → bytes ≡ header v ++ rest → ⊥

-- A line behind the header has the first fault.
pub record HasFault (bytes : List ℕ) (f : ScheduleFault) : Type 0 where
  pub version : Version
  pub more : List (List ℕ)
  pub short : length bytes ≤ most_schedule_bytes
  pub lines_are : lines bytes ≡ header version ∷ more
  pub first : FirstFault version None 0 2 more f

-- The tickets whose text the bytes are, or the first fault. Want of memory says nothing.
abbrev pub ReadAs : List ℕ → Result (List ℕ) ScheduleFault → Type 0
ReadAs bytes (Ok tickets) = IsSchedule bytes tickets
ReadAs bytes (Err NoMemory) = Unit {0}
ReadAs bytes (Err BadHeader) = LacksHeader bytes
ReadAs bytes (Err (BadLine n)) = HasFault bytes (BadLine n)
ReadAs bytes (Err (TicketTooWide n)) = HasFault bytes (TicketTooWide n)
ReadAs bytes (Err NoEnd) = HasFault bytes NoEnd
ReadAs bytes (Err (TooLong zero)) = most_schedule_bytes < length bytes
ReadAs bytes (Err (TooLong (suc n))) = HasFault bytes (TooLong (suc n))
