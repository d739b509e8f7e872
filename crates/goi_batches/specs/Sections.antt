-- What is told of the programs of a list, each with its budget of moves.
-- The section of a program is what a run of it alone within its budget prints, or the line of its first fault. Nothing of the other
-- programs is in it. The report has the sections in the list's order, each behind the line of its number, from 0 on.
use Rattle.std.specs.Prelude.{◌≡◌, ◌⊎◌, ℕ, suc, Bool, false, ◌||◌, if◌then◌else◌, nat_eq, List, [], ◌∷◌, ◌++◌, codes}
use Rattle.goi_reports.specs.Lines.{numbered_line}
use Rattle.goi_tasks.specs.declared.fault.Fault.{Fault}
use Rattle.goi_jobs.specs.declared.task.Task.{Task}
use Rattle.goi_jobs.specs.declared.task.Task.TheVariants.{Run}
use Rattle.goi_tasks.specs.Outputs.{Output}
use Rattle.program_runs.specs.declared.calling.Calling.TheVariants.{ByName}
use Rattle.program_runs.specs.Programs.{number}
use Rattle.goi_tasks.specs.Programs.{FaultyText}
use Rattle.goi_tasks.specs.Refusals.{fault_line}
use Rattle.goi_jobs.specs.Tasks.{nothing_shown}
use Rattle.goi_tasks.specs.Tasks.{ReportsText, EndsText}

-- a program of a list: its text, and how many moves it may make
pub record Listed : Type 0 where
  pub budget : ℕ
  pub bytes : List ℕ

abbrev pub listed : ℕ → List ℕ → Listed
listed budget bytes = record { budget = budget; bytes = bytes }

-- what is told of a program, and the status with which a run of it alone ends
pub record Section : Type 0 where
  pub status : ℕ
  pub text : List ℕ

abbrev pub section : ℕ → List ℕ → Section
section status text = record { status = status; text = text }

-- the run of a program alone, that tells neither its schedule nor its tally nor its progress
abbrev pub plain_run : ℕ → Task
plain_run budget = Run budget ByName nothing_shown

-- what is told of this program where so many workers run it
pub data IsSection (workers : ℕ) (p : Listed) : Section → Type 0 where
  -- the report of a run of it alone
  runs : (o : Output) → ReportsText workers (plain_run p.budget) p.bytes o → IsSection workers p (section o.status o.report)
  -- or the line of its first fault
  refused : (f : Fault) → FaultyText number p.bytes f → IsSection workers p (section 1 (fault_line f))

-- ---- the report

-- the line of a program's number
abbrev pub job_line : ℕ → List ℕ
job_line n = numbered_line (codes "job ") n

-- the sections in turn, of which the first has this number
abbrev pub sections_from : ℕ → List Section → List ℕ
sections_from n [] = []
sections_from n (s ∷ ss) = job_line n ++ (s.text ++ sections_from (suc n) ss)

abbrev pub batch_report : List Section → List ℕ
batch_report ss = sections_from 0 ss

-- one of these statuses is this one
abbrev pub some_is : ℕ → List ℕ → Bool
some_is status [] = false
some_is status (s ∷ ss) = nat_eq s status || some_is status ss

-- the status of them all: 1 where a program is refused, else 5 where one has no value, and else 0
abbrev pub batch_status : List ℕ → ℕ
batch_status ss = if some_is 1 ss then 1 else (if some_is 5 ss then 5 else 0)

abbrev pub statuses_of : List Section → List ℕ
statuses_of [] = []
statuses_of (s ∷ ss) = s.status ∷ statuses_of ss

-- ---- how it ends

-- a run of this program alone ends with this status, or it is refused
abbrev pub EndsListed : Listed → ℕ → Type 0
EndsListed p status =
    EndsText (plain_run p.budget) p.bytes status ⊎ ((f : Fault) × FaultyText number p.bytes f × (status ≡ 1))
