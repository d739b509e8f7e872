-- The tasks for which the numbers of calls ask.
use Rattle.std.specs.Prelude.{◌/◌, ◌%◌, ℕ, zero, suc, Bool, false, nat_eq}
use Rattle.program_runs.specs.declared.calling.Calling.TheVariants.{ByName, ByValue}
use Rattle.program_runs.specs.Programs.{calling_of}
use Rattle.goi_jobs.specs.declared.window.Window.{Window}
use Rattle.goi_jobs.specs.declared.task.Task.{Task}
use Rattle.goi_jobs.specs.declared.task.Task.TheVariants.{Check, Run, RunNet, Span, Trace}
use Rattle.goi_jobs.specs.Tasks.{shown, nothing_shown}

-- call by value is asked for, and the schedule is, and a line for each round is
abbrev pub by_value_in : ℕ → Bool
by_value_in flags = nat_eq (flags % 2) 1

abbrev pub schedule_in : ℕ → Bool
schedule_in flags = nat_eq ((flags / 2) % 2) 1

abbrev pub profile_in : ℕ → Bool
profile_in flags = nat_eq (flags / 4) 1

-- a run of a text's program with its schedule, and one of a listed net, which has no call by value
abbrev pub run_task : ℕ → ℕ → Task
run_task budget flags = Run budget (calling_of (by_value_in flags)) (shown (schedule_in flags) false false)

abbrev pub listed_task : ℕ → Bool → Task
listed_task budget schedule = RunNet budget (shown schedule false false)

-- a run with this part of its trace
abbrev pub trace_task : ℕ → ℕ → Window → Task
trace_task budget flags window = Trace budget (calling_of (nat_eq flags 1)) window

-- a run in rounds, with its schedule and with a line for each round where the flags ask for them
abbrev pub span_task : ℕ → ℕ → Task
span_task budget flags = Span budget (calling_of (by_value_in flags)) (profile_in flags) (schedule_in flags)

-- the task that is done with a text to find its fault
abbrev pub taken_task : ℕ → Task
taken_task zero = Check false
taken_task (suc zero) = Run 1 ByName nothing_shown
taken_task (suc (suc zero)) = Run 1 ByValue nothing_shown
taken_task _ = RunNet 1 nothing_shown
