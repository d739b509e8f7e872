-- Which logs are those of so many workers, and the line of a count by whether it is the last one.
use Rattle.std.specs.Prelude.{ℕ, ◌≤◌, Bool, true, false, List, All}
use Rattle.schedule_log.specs.declared.entry.Entry.{Entry}
use Rattle.goi_reports.specs.Tallies.{worker_line, finisher_line}

-- each move was booked by one of so many workers, or by the finisher, who books under their number
abbrev pub BookedWithin : ℕ → List Entry → Type 0
BookedWithin workers es = All (λ (e : Entry). e.worker ≤ workers) es

-- the line of a count by whether it is the last one
abbrev pub last_or_worker_line : Bool → ℕ → ℕ → List ℕ
last_or_worker_line true worker count = finisher_line count
last_or_worker_line false worker count = worker_line worker count
