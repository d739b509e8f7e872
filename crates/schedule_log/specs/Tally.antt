-- The tally of a log: how many of its moves each worker booked.
-- Workers are counted from 0. Whoever ends a run behind them, the finisher, books under the number of workers, so a tally for n workers
-- has n + 1 counts, and the last is the finisher's.
use Rattle.std.specs.Prelude.{ℕ, zero, suc, List, [], ◌∷◌, count_by, nat_eq}
use Rattle.schedule_log.specs.declared.entry.Entry.{Entry}

-- how many entries this worker booked
abbrev pub tally_of : List Entry → ℕ → ℕ
tally_of es w = count_by (λ (e : Entry). nat_eq e.worker w) es

-- the counts of so many workers, from the worker w on
abbrev pub tally_from : List Entry → ℕ → ℕ → List ℕ
tally_from es w zero = []
tally_from es w (suc n) = tally_of es w ∷ tally_from es (suc w) n

-- the tally for so many workers, and the finisher's count at its end
abbrev pub tally : List Entry → ℕ → List ℕ
tally es workers = tally_from es 0 (suc workers)
