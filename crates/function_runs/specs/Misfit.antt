-- The fault of a program that isn't a function of so many numbers.
use Rattle.std.specs.Prelude.{ℕ}
use Rattle.pcf_values.specs.Terms.{TyTree}
use Rattle.program_runs.specs.declared.fault.ProgramFault.{ProgramFault}
use Rattle.program_runs.specs.declared.fault.ProgramFault.TheVariants.{NotGround}
use Rattle.function_runs.specs.Functions.{Takes}

-- this is the fault of a program of another type
pub data IsMisfit (n : ℕ) (A : TyTree) : ProgramFault → Type 0 where
  misfit : (Takes n A → ⊥) → IsMisfit n A NotGround
