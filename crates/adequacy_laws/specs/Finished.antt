-- Whether a net's length is within a budget.
-- A run is finished when it has answered or has made as many moves as the budget allows, so 'no answer' says that the net's length is
-- absent or above the budget, and nothing else; whether a program without a value has been met can't be told from a number of moves.
use Rattle.std.specs.Prelude.{◌≤◌, ◌<◌, ℕ}
use Rattle.pcf_values.specs.declared.val.Val.{Val}
use Rattle.net_build.specs.Nets.{NetTree}
use Rattle.adequacy_laws.specs.Questions.{Length}

-- the net has this value, and its length is within the budget
abbrev pub Within : NetTree → ℕ → Val → Type 0
Within net budget v = (n : ℕ) × Length net v n × (n ≤ budget)

-- the net's length is absent or above the budget
abbrev pub Beyond : NetTree → ℕ → Type 0
Beyond net budget = (v : Val) (n : ℕ) → Length net v n → budget < n
