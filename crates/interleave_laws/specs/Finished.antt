-- When a log is finished within a budget of moves.
use Rattle.std.specs.Prelude.{◌≡◌, ◌≤◌, ℕ, List, length, Option, None}
use Rattle.pcf_values.specs.declared.val.Val.{Val}

-- a log with this answer is finished within a budget: it has at most so many moves, and as many where there is no answer
abbrev pub Finished : Option Val → List ℕ → ℕ → Type 0
Finished answered log budget = (length log ≤ budget) × (answered ≡ None → length log ≡ budget)
