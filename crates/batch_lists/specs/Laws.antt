-- What holds of lists of jobs.
use Rattle.std.specs.Prelude.{◌≡◌, ℕ, List, Result, Err}
use Rattle.batch_lists.specs.declared.fault.BatchFault.{BatchFault}
use Rattle.batch_lists.specs.declared.fault.BatchFault.TheVariants.{NoMemory}
use Rattle.batch_lists.specs.declared.line.BatchLine.{BatchLine}
use Rattle.batch_lists.specs.Lists.{ReadAsList}
use Rattle.batch_lists.specs.declared.limits.TheConstants.{JOBS, JOB_BUDGET, LIST_BYTES}
use Rattle.batch_lists.specs.Limits.{most_jobs, most_job_budget, most_list_bytes}

-- each constant is the number of its name
pub record BatchLimitsAre : Type 0 where
  pub jobs : JOBS ≡ most_jobs
  pub job_budget : JOB_BUDGET ≡ most_job_budget
  pub list_bytes : LIST_BYTES ≡ most_list_bytes

-- No bytes are read in two ways, but for want of memory. So a list is always answered with its jobs, and other bytes with their first
-- fault.
abbrev pub OneList : Type 0
OneList = (bytes : List ℕ) (r s : Result (List BatchLine) BatchFault) →
    (r ≡ Err NoMemory → ⊥) → (s ≡ Err NoMemory → ⊥) → ReadAsList bytes r → ReadAsList bytes s → r ≡ s
