-- What a run of a text comes to, without its report.
use Rattle.std.specs.Prelude.{ℕ, List, Option}
use Rattle.pcf_values.specs.declared.val.Val.{Val}
use Rattle.program_runs.specs.declared.calling.Calling.{Calling}
use Rattle.program_runs.specs.Programs.{OfProgram, wanted_by_run}
use Rattle.program_runs.specs.Runs.{meaning, net_run, Tells}

-- The text is a program, and this is what its run comes to: its value with the length of its net, or no value, where that length is
-- absent or above the budget.
abbrev pub TellsText : Calling → ℕ → List ℕ → Option Val → ℕ → Type 0
TellsText calling budget bytes answer moves =
    OfProgram (wanted_by_run calling) bytes (λ tree t A. Tells (meaning calling t) (net_run calling t) budget answer moves)
