-- Which bytes are a list of jobs, and which fault of other bytes is the first.
-- A list is the line `batch 1`, job lines and the line `end`, each with its line feed. A job line is `job`, a budget and a name, with one
-- space between them; the name is what is left of the line, and may begin with a space or a dash. A fault is told by the lines before it,
-- which stand, and by the line at which they end: it is the least line that can't stand there.
use Rattle.std.specs.Prelude.{◌≡◌, ◌⊎◌, ℕ, suc, ◌+◌, ◌<◌, ◌≤◌, List, [], ◌∷◌, ◌++◌, length, codes, Result, Ok, Err}
use Rattle.std.specs.Str.{IsUtf8}
use Rattle.text_lines.specs.Lines.{IsEarly, end_line, lines}
use Rattle.text_lines.specs.Numbers.{Spells}
use Rattle.batch_lists.specs.declared.fault.BatchFault.{BatchFault}
use Rattle.batch_lists.specs.declared.fault.BatchFault.TheVariants.{NoMemory, TooLong, BadHeader, BadLine, TooMany, NoEnd}
use Rattle.batch_lists.specs.declared.line.BatchLine.{BatchLine}
use Rattle.batch_lists.specs.Limits.{most_jobs, most_job_budget, most_list_bytes}

-- the first line
abbrev pub list_header : List ℕ
list_header = codes "batch 1\n"

-- a job line: its budget is within the limit and has no leading zeros, and its name is a text and not empty
pub record IsJobLine (l : List ℕ) (job : BatchLine) : Type 0 where
  pub digits : List ℕ
  pub budget : Spells digits job.budget
  pub some : 1 ≤ job.budget
  pub few : job.budget ≤ most_job_budget
  pub named : 0 < length job.file
  pub text : IsUtf8 job.file
  pub line : l ≡ codes "job " ++ (digits ++ (codes " " ++ (job.file ++ codes "\n")))

-- these lines are the lines of these jobs, in turn
abbrev pub StandFor : List (List ℕ) → List BatchLine → Type 0
StandFor [] [] = Unit {0}
StandFor [] (job ∷ jobs) = ⊥
StandFor (l ∷ ls) [] = ⊥
StandFor (l ∷ ls) (job ∷ jobs) = IsJobLine l job × StandFor ls jobs

-- a line that can't stand behind the header, whatever follows: it isn't `end`, and no job line either
pub record IsNoLine (l : List ℕ) : Type 0 where
  pub other : l ≡ end_line → ⊥
  pub none : (job : BatchLine) → IsJobLine l job → ⊥

-- the fault of line n, the first of these lines, behind m jobs
abbrev pub FaultHere : ℕ → ℕ → List (List ℕ) → BatchFault → Type 0
FaultHere m n [] f = f ≡ NoEnd
FaultHere m n (l ∷ ls) (BadLine k) = ((k ≡ n) × IsNoLine l) ⊎ ((k ≡ suc n) × IsEarly l ls)
FaultHere m n (l ∷ ls) (TooMany k) = (k ≡ n) × (most_jobs ≤ m) × (job : BatchLine) × IsJobLine l job
FaultHere m n (l ∷ ls) NoMemory = ⊥
FaultHere m n (l ∷ ls) TooLong = ⊥
FaultHere m n (l ∷ ls) BadHeader = ⊥
FaultHere m n (l ∷ ls) NoEnd = ⊥

-- The first fault of lines of which the first is line n, behind m jobs: the lines before stand for jobs, not too many, and the next line
-- has the fault.
pub record FirstFault (m n : ℕ) (ls : List (List ℕ)) (f : BatchFault) : Type 0 where
  pub before : List (List ℕ)
  pub rest : List (List ℕ)
  pub jobs : List BatchLine
  pub are : ls ≡ before ++ rest
  pub stand : StandFor before jobs
  pub few : m + length jobs ≤ most_jobs
  pub fault : FaultHere (m + length jobs) (n + length before) rest f

-- lines behind m jobs that stand for these jobs, not too many, and the line `end`
pub record WholeList (m : ℕ) (ls : List (List ℕ)) (jobs : List BatchLine) : Type 0 where
  pub before : List (List ℕ)
  pub are : ls ≡ before ++ end_line ∷ []
  pub stand : StandFor before jobs
  pub few : m + length jobs ≤ most_jobs

-- the bytes are a list of these jobs
pub record IsList (bytes : List ℕ) (jobs : List BatchLine) : Type 0 where
  pub more : List (List ℕ)
  pub short : length bytes ≤ most_list_bytes
  pub lines_are : lines bytes ≡ list_header ∷ more
  pub whole : WholeList 0 more jobs

-- the header doesn't begin these bytes
pub record LacksListHeader (bytes : List ℕ) : Type 0 where
  pub short : length bytes ≤ most_list_bytes
  pub none : (rest : List ℕ) → bytes ≡ list_header ++ rest → ⊥

-- a line behind the header has the first fault
pub record HasListFault (bytes : List ℕ) (f : BatchFault) : Type 0 where
  pub more : List (List ℕ)
  pub short : length bytes ≤ most_list_bytes
  pub lines_are : lines bytes ≡ list_header ∷ more
  pub first : FirstFault 0 2 more f

-- The jobs whose list the bytes are, or the first fault. Want of memory says nothing.
abbrev pub ReadAsList : List ℕ → Result (List BatchLine) BatchFault → Type 0
ReadAsList bytes (Ok jobs) = IsList bytes jobs
ReadAsList bytes (Err NoMemory) = Unit {0}
ReadAsList bytes (Err TooLong) = most_list_bytes < length bytes
ReadAsList bytes (Err BadHeader) = LacksListHeader bytes
ReadAsList bytes (Err (BadLine n)) = HasListFault bytes (BadLine n)
ReadAsList bytes (Err (TooMany n)) = HasListFault bytes (TooMany n)
ReadAsList bytes (Err NoEnd) = HasListFault bytes NoEnd
