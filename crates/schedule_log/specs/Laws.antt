-- What holds of schedule texts, of tallies, and of the runs that a log is kept as.
use Rattle.std.specs.Prelude.{◌≡◌, ℕ, ◌+◌, ◌*◌, ◌≤◌, List, [], ◌∷◌, length, sum, Result, Ok, Err}
use Rattle.pcf_values.specs.Most.{most_moves}
use Rattle.schedule_log.specs.declared.fault.ScheduleFault.{ScheduleFault}
use Rattle.schedule_log.specs.declared.fault.ScheduleFault.TheVariants.{NoMemory}
use Rattle.schedule_log.specs.Schedules.{ReadAs}
use Rattle.schedule_log.specs.Reading.{tickets_in}
use Rattle.schedule_log.specs.LogsSeen.{Small}
use Rattle.schedule_log.specs.Runs.{schedule_text}
use Rattle.schedule_log.specs.KeptRuns.{MovesSeen, Apart, Each, spread}
use Rattle.schedule_log.specs.declared.entry.Entry.{Entry}
use Rattle.schedule_log.specs.Tally.{tally}

-- Reading answers the tickets or the first fault of any bytes, and never want of memory, of which nothing is said.
abbrev pub FirstFaultFound : Type 0
FirstFaultFound = (bytes : List ℕ) → (tickets_in bytes ≡ Err NoMemory → ⊥) × ReadAs bytes (tickets_in bytes)

-- No bytes are read in two ways, but for want of memory.
abbrev pub OneAnswer : Type 0
OneAnswer = (bytes : List ℕ) (r s : Result (List ℕ) ScheduleFault) →
    (r ≡ Err NoMemory → ⊥) → (s ≡ Err NoMemory → ⊥) → ReadAs bytes r → ReadAs bytes s → r ≡ s

-- What is printed of at most 10,000,000 tickets is their text, and is read as nothing else.
pub record IsReadBack (tickets : List ℕ) : Type 0 where
  pub text : ReadAs (schedule_text tickets) (Ok tickets)
  pub only : (r : Result (List ℕ) ScheduleFault) → (r ≡ Err NoMemory → ⊥) → ReadAs (schedule_text tickets) r →
      r ≡ Ok tickets

-- What is printed is read back.
abbrev pub PrintedIsRead : Type 0
PrintedIsRead = (tickets : List ℕ) → Small tickets → length tickets ≤ most_moves → IsReadBack tickets

-- The text of n moves has at most 13 n + 15 bytes.
abbrev pub PrintedIsShort : Type 0
PrintedIsShort = (tickets : List ℕ) → Small tickets → length tickets ≤ most_moves →
    length (schedule_text tickets) ≤ 13 * length tickets + 15

-- no entry is of a worker above this one
abbrev pub WorkersUpTo : ℕ → List Entry → Type 0
WorkersUpTo n [] = Unit {0}
WorkersUpTo n (e ∷ es) = (e.worker ≤ n) × WorkersUpTo n es

-- The counts of a tally add up to the number of moves, where no worker is above the finisher.
abbrev pub TallyAddsUp : Type 0
TallyAddsUp = (entries : List Entry) (workers : ℕ) → WorkersUpTo workers entries → sum (tally entries workers) ≡ length entries

-- Lists of runs that stand for the same moves are the same list, where each run has a move, and neighbours differ or the first of them is
-- full.
abbrev pub OneWayToRun : Type 0
OneWayToRun = (rs qs : List MovesSeen) → Each rs → Apart rs → Each qs → Apart qs → spread rs ≡ spread qs → rs ≡ qs
