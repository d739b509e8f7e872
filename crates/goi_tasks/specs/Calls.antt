-- A call of a text's function at numbers: its output, the first fault of a text that is no such function, and the status with which it
-- ends. What is run is the term applied to the numbers, by name. And what is done with a text's function, of however many numbers.
use Rattle.std.specs.Prelude.{ℕ, List, length}
use Rattle.pcf_values.specs.Terms.{TermTree}
use Rattle.net_build.specs.NetOf.{net_of}
use Rattle.open_net_laws.specs.Applied.{applied}
use Rattle.function_runs.specs.Functions.{CompilesText, FaultyFunction, FaultyAny}
use Rattle.program_runs.specs.declared.calling.Calling.TheVariants.{ByName}
use Rattle.goi_tasks.specs.declared.fault.Fault.{Fault}
use Rattle.goi_jobs.specs.declared.shown.Shown.{Shown}
use Rattle.goi_tasks.specs.Outputs.{Output}
use Rattle.goi_tasks.specs.Programs.{IsProgramFault}
use Rattle.goi_tasks.specs.RunReports.{ReportsRun, EndsRun}

-- the text is a function of as many numbers as these, and this is so of its term applied to them
pub record OfFunction (numbers bytes : List ℕ) (P : TermTree → Type 0) : Type 0 where
  pub term : TermTree
  pub is : CompilesText bytes (length numbers) (term, length numbers)
  pub so : P (applied term numbers)

-- the output of the call, where so many workers run what is run
abbrev pub ReportsCall : ℕ → ℕ → Shown → List ℕ → List ℕ → Output → Type 0
ReportsCall workers budget shown numbers bytes o = OfFunction numbers bytes (λ t. ReportsRun workers budget ByName shown t o)

-- the first fault of a text that can't be called with so many numbers
abbrev pub FaultyCall : List ℕ → List ℕ → Fault → Type 0
FaultyCall numbers bytes = IsProgramFault (FaultyFunction (length numbers) bytes)

-- it can be called with them, and the call ends with this status
abbrev pub EndsCall : ℕ → List ℕ → List ℕ → ℕ → Type 0
EndsCall budget numbers bytes status = OfFunction numbers bytes (λ t. EndsRun budget (net_of t) status)

-- the text is a function of some number of arguments, a program of type `nat` one of none, and this is so of its term and of that number
pub record OfAnyFunction (bytes : List ℕ) (P : TermTree → ℕ → Type 0) : Type 0 where
  pub term : TermTree
  pub count : ℕ
  pub is : CompilesText bytes count (term, count)
  pub so : P term count

-- the first fault of a text that is a function of no number of arguments
abbrev pub FaultyAnyFunction : List ℕ → Fault → Type 0
FaultyAnyFunction bytes = IsProgramFault (FaultyAny bytes)
