-- A tally as lines: the count of each worker, from worker 0 on, and then the finisher's.
-- What the counts are stands in `schedule_log`: how many of the moves each worker booked, with the finisher's count at the end.
use Rattle.std.specs.Prelude.{ℕ, suc, List, [], ◌∷◌, ◌++◌, codes, decimal}
use Rattle.schedule_log.specs.declared.entry.Entry.{Entry}
use Rattle.schedule_log.specs.Tally.{tally}
use Rattle.goi_reports.specs.Lines.{numbered_line}

-- the line of this worker's count
abbrev pub worker_line : ℕ → ℕ → List ℕ
worker_line worker count = codes "worker " ++ (decimal worker ++ numbered_line (codes " ") count)

-- the line of the finisher's count
abbrev pub finisher_line : ℕ → List ℕ
finisher_line count = numbered_line (codes "finisher ") count

-- the lines of counts, the first of which is this worker's and the last the finisher's
abbrev pub tally_lines : ℕ → List ℕ → List ℕ
tally_lines worker [] = []
tally_lines worker (count ∷ []) = finisher_line count
tally_lines worker (count ∷ (next ∷ counts)) = worker_line worker count ++ tally_lines (suc worker) (next ∷ counts)

-- the tally of moves for so many workers
abbrev pub tally_text : List Entry → ℕ → List ℕ
tally_text es workers = tally_lines 0 (tally es workers)
