-- The parts of a job line, for the contracts of the calls inside.
use Rattle.std.specs.Prelude.{◌≡◌, ℕ, ◌<◌, ◌≤◌, List, ◌++◌, length, codes}
use Rattle.std.specs.Str.{IsUtf8}
use Rattle.text_lines.specs.Numbers.{Spells}
use Rattle.batch_lists.specs.declared.fault.BatchFault.{BatchFault}
use Rattle.batch_lists.specs.declared.fault.BatchFault.TheVariants.{NoMemory, TooLong, BadHeader, BadLine, TooMany, NoEnd}
use Rattle.batch_lists.specs.declared.line.BatchLine.{BatchLine}
use Rattle.batch_lists.specs.Limits.{most_jobs, most_job_budget}
use Rattle.batch_lists.specs.Lists.{IsJobLine}

-- the bytes begin with this budget and a space, and this stands behind
pub record IsBudgetIn (bytes : List ℕ) (n : ℕ) (rest : List ℕ) : Type 0 where
  pub digits : List ℕ
  pub spells : Spells digits n
  pub some : 1 ≤ n
  pub few : n ≤ most_job_budget
  pub bytes_are : bytes ≡ digits ++ (codes " " ++ rest)

-- the bytes are this name and a line feed
pub record IsNameIn (bytes name : List ℕ) : Type 0 where
  pub named : 0 < length name
  pub text : IsUtf8 name
  pub bytes_are : bytes ≡ name ++ codes "\n"

-- the fault of line n, behind m jobs, where the line isn't `end`
abbrev pub LineFault : ℕ → ℕ → List ℕ → BatchFault → Type 0
LineFault m n l NoMemory = Unit {0}
LineFault m n l (BadLine k) = (k ≡ n) × ((job : BatchLine) → IsJobLine l job → ⊥)
LineFault m n l (TooMany k) = (k ≡ n) × (most_jobs ≤ m) × (job : BatchLine) × IsJobLine l job
LineFault m n l TooLong = ⊥
LineFault m n l BadHeader = ⊥
LineFault m n l NoEnd = ⊥
