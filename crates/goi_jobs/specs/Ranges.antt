-- The ranges of the numbers of tasks and jobs, as words can ask for them.
use Rattle.std.specs.Prelude.{◌≤◌, ⊤, ℕ, Option, None, Some}
use Rattle.pcf_values.specs.Most.{most_workers, most_budget, most_demo, most_moves}
use Rattle.goi_jobs.specs.Limits.{most_traced, most_told, most_cells, most_forks}
use Rattle.goi_jobs.specs.declared.window.Window.{Window}

-- a number of workers, a budget and the number of a generated program
abbrev pub IsWorkers : ℕ → Type 0
IsWorkers n = (1 ≤ n) × (n ≤ most_workers)

abbrev pub IsBudget : ℕ → Type 0
IsBudget n = (1 ≤ n) × (n ≤ most_budget)

abbrev pub IsDemo : ℕ → Type 0
IsDemo n = n ≤ most_demo

-- an entry with which a trace can begin, or a step with which the told part of a reduction does, and a number of moves of a trace
abbrev pub IsFrom : ℕ → Type 0
IsFrom n = n ≤ most_moves

abbrev pub IsMost : ℕ → Type 0
IsMost n = (1 ≤ n) × (n ≤ most_traced)

-- the part of a trace
abbrev pub IsWindow : Window → Type 0
IsWindow window = IsFrom window.from × IsMost window.most

-- a number of steps that can be told, and the part of a reduction
abbrev pub IsTold : ℕ → Type 0
IsTold n = (1 ≤ n) × (n ≤ most_told)

abbrev pub IsPart : Window → Type 0
IsPart window = IsFrom window.from × IsTold window.most

-- the part that is asked for, if one is
abbrev pub IsWindowIfAny : Option Window → Type 0
IsWindowIfAny None = ⊤
IsWindowIfAny (Some window) = IsWindow window

-- the cells of a circuit, and its forks
abbrev pub IsCells : ℕ → Type 0
IsCells n = (1 ≤ n) × (n ≤ most_cells)

abbrev pub IsForks : ℕ → Type 0
IsForks n = (1 ≤ n) × (n ≤ most_forks)
