-- What contracts see of a log: its entries and its room, and what the calls on a log make of these. No promise of `goi` speaks of it.
use Rattle.std.specs.Prelude.{ℕ, zero, suc, ◌<◌, ◌^◌, List, [], ◌∷◌, ◌++◌, length, Option, Some, None, Result, Ok, Err}
use Rattle.schedule_log.specs.declared.entry.Entry.{Entry}
use Rattle.schedule_log.specs.declared.fault.ScheduleFault.{ScheduleFault}
use Rattle.schedule_log.specs.Logs.{tickets_in_log, read_entries}

-- the entries in order, and for how many there is room
pub record LogSeen : Type 0 where
  pub entries : List Entry
  pub room : ℕ

-- each ticket is below 2 ^ 32, as those of every log are
abbrev pub Small : List ℕ → Type 0
Small [] = Unit {0}
Small (t ∷ ts) = (t < 2 ^ 32) × Small ts

-- the ticket of the entry at a place, if it isn't past the end
abbrev pub ticket_at : List Entry → ℕ → Option ℕ
ticket_at [] n = None
ticket_at (e ∷ es) zero = Some e.ticket
ticket_at (e ∷ es) (suc n) = ticket_at es n

-- the worker of the entry at a place, if it isn't past the end
abbrev pub worker_at : List Entry → ℕ → Option ℕ
worker_at [] n = None
worker_at (e ∷ es) zero = Some e.worker
worker_at (e ∷ es) (suc n) = worker_at es n

-- the log without entries
abbrev pub empty_log : ℕ → LogSeen
empty_log room = record { entries = []; room = room }

-- the log with one more entry
abbrev pub with_entry : LogSeen → Entry → LogSeen
with_entry l e = record { entries = l.entries ++ e ∷ []; room = l.room }

-- the log with more entries
abbrev pub with_entries : LogSeen → List Entry → LogSeen
with_entries l es = record { entries = l.entries ++ es; room = l.room }

-- the log of tickets that are read, with room for them exactly
abbrev pub read_log : List ℕ → LogSeen
read_log ts = record { entries = read_entries ts; room = length ts }

-- the tickets of a log that was read, or the fault
abbrev pub tickets_read : Result LogSeen ScheduleFault → Result (List ℕ) ScheduleFault
tickets_read (Ok l) = Ok (tickets_in_log l.entries)
tickets_read (Err f) = Err f
