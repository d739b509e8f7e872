-- The faults of programs' texts among all the faults that a task may meet.
-- Which texts are programs, and what is the first fault of one that isn't, stands in `program_runs`.
use Rattle.std.specs.Prelude.{◌⊎◌, ℕ, List}
use Rattle.pcf_values.specs.Terms.{TermTree}
use Rattle.program_runs.specs.declared.fault.ProgramFault.{ProgramFault}
use Rattle.program_runs.specs.Programs.{Wanted, number, FaultyProgram, OfGround}
use Rattle.goi_tasks.specs.declared.fault.Fault.{Fault}
use Rattle.goi_tasks.specs.declared.fault.Fault.TheVariants.{Program}

-- it is a fault of a program, of which this holds
pub data IsProgramFault (P : ProgramFault → Type 0) : Fault → Type 0 where
  no_program : (f : ProgramFault) → P f → IsProgramFault P (Program f)

-- the text is refused as such a program for this fault, which is its first
abbrev pub FaultyText : Wanted → List ℕ → Fault → Type 0
FaultyText wanted bytes = IsProgramFault (FaultyProgram wanted bytes)

-- a program's text is refused for this fault, or it is a program whose term is a number, and a second text is refused for it
abbrev pub FaultyEither : List ℕ → (TermTree → Type 0) → Fault → Type 0
FaultyEither bytes second f = FaultyText number bytes f ⊎ OfGround bytes second
