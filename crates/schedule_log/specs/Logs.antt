-- The entries of a log: their tickets, and by whom the moves were made.
use Rattle.std.specs.Prelude.{ℕ, ◌≤◌, List, [], ◌∷◌, All, map}
use Rattle.schedule_log.specs.declared.entry.Entry.{Entry}

-- the tickets of entries
abbrev pub tickets_in_log : List Entry → List ℕ
tickets_in_log [] = []
tickets_in_log (e ∷ es) = e.ticket ∷ tickets_in_log es

-- moves of these tickets, all by one worker
abbrev pub by : ℕ → List ℕ → List Entry
by w tickets = map (λ t. record { ticket = t; worker = w }) tickets

-- each move was made by one of so many workers, or by the finisher, whose number is that of the workers
abbrev pub IsMadeBy : ℕ → List Entry → Type 0
IsMadeBy workers log = All (λ e. e.worker ≤ workers) log

-- the entries of tickets that are read: no worker is told, so each has worker 0
abbrev pub read_entries : List ℕ → List Entry
read_entries ts = by 0 ts
