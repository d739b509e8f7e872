-- What can be asked for, and the ranges of its numbers.
-- A job has the options of its command with their values, given or by default. Its files are named by the bytes of their names.
use Rattle.std.specs.Prelude.{◌≡◌, ℕ, Bool, true, List, Option}
use Rattle.goi_jobs.specs.Ranges.{IsWorkers, IsBudget, IsDemo, IsWindowIfAny}
use Rattle.verilog_names.specs.Name.{module_name}
use Rattle.goi_jobs.specs.Tasks.{IsWithin}
use Rattle.goi_jobs.specs.Verilogs.{IsPrinted}
use Rattle.goi_jobs.specs.declared.jobs.Job.{Job}
use Rattle.goi_jobs.specs.declared.jobs.Job.TheVariants as variant
use Rattle.goi_jobs.specs.declared.task.Task.{Task}
use Rattle.goi_jobs.specs.declared.verilog.Verilog.{Verilog}
use Rattle.goi_jobs.specs.declared.window.Window.{Window}

-- a job
pub data JobTree : Type 0 where
  -- do this with the text of a file, by so many workers where something is run
  text : List ℕ → ℕ → Task → JobTree
  -- run the schedule of the second file on the net of the program of the first, and print this part of its trace where asked
  replay : List ℕ → List ℕ → Option Window → JobTree
  -- run the programs that the file lists, with so many workers
  list : List ℕ → ℕ → JobTree
  -- run the program that is generated for a number, with so many workers
  demo : ℕ → ℕ → JobTree
  -- run the term of the program of a file, applied to these numbers, with so many workers and at most so many moves; print its schedule
  -- and its tally where asked
  call : List ℕ → List ℕ → ℕ → ℕ → Bool → Bool → JobTree
  -- print this of the circuit of the text of a file, under this name of its module
  verilog : List ℕ → List ℕ → Verilog → JobTree

-- the job of the code
abbrev pub job_of : Job → JobTree
job_of (variant.Text file workers task) = text file workers task
job_of (variant.Replay file schedule window) = replay file schedule window
job_of (variant.List file workers) = list file workers
job_of (variant.Demo n workers) = demo n workers
job_of (variant.Call file numbers workers budget schedule tally) = call file numbers.items workers budget schedule tally
job_of (variant.Verilog file name v) = verilog file name v

-- the numbers of a job are in their ranges, and the name of a module is one
abbrev pub IsWithinLimits : JobTree → Type 0
IsWithinLimits (text file workers task) = IsWorkers workers × IsWithin task
IsWithinLimits (replay file schedule window) = IsWindowIfAny window
IsWithinLimits (list file workers) = IsWorkers workers
IsWithinLimits (demo n workers) = IsDemo n × IsWorkers workers
IsWithinLimits (call file numbers workers budget schedule tally) = IsWorkers workers × IsBudget budget
IsWithinLimits (verilog file name v) = (module_name name ≡ true) × IsPrinted v
