-- A run of a text's program: its answer, or none within the budget, with the log of its moves, and what they say of the program.
use Rattle.std.specs.Prelude.{ℕ, List, Option}
use Rattle.pcf_values.specs.declared.val.Val.{Val}
use Rattle.schedule_log.specs.declared.entry.Entry.{Entry}
use Rattle.program_runs.specs.declared.calling.Calling.{Calling}
use Rattle.program_runs.specs.Programs.{OfProgram, wanted_by_run}
use Rattle.program_runs.specs.Runs.{meaning, net_run, IsProgramRun}

-- the text is a program of type `nat`, with a translation where it runs by value, and this is a run of it
abbrev pub RunsText : Calling → ℕ → ℕ → List ℕ → Option Val → List Entry → Type 0
RunsText calling workers budget bytes answer log =
    OfProgram (wanted_by_run calling) bytes (λ tree t A. IsProgramRun (meaning calling t) (net_run calling t) workers budget answer log)
