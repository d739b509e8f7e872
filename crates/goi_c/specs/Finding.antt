-- What the calls promise that tell the first fault of a text in numbers.
use Rattle.std.specs.Prelude.{◌≡◌, ◌+◌, ℕ, List}
use Rattle.program_runs.specs.Programs.{any_type, number, strict_number}
use Rattle.function_runs.specs.Functions.{FaultyFunction}
use Rattle.goi_tasks.specs.declared.fault.Fault.{Fault}
use Rattle.goi_tasks.specs.NetFiles.{FaultyListing}
use Rattle.goi_tasks.specs.Programs.{FaultyEither, FaultyText, IsProgramFault}
use Rattle.goi_tasks.specs.Refusals.{fault_status}
use Rattle.goi_tasks.specs.Replaying.{FaultySchedule}
use Rattle.goi_c.specs.declared.finding.FaultData.{FaultData}
use Rattle.goi_c.specs.Faults.{FaultIs, IsNoFault}

-- There is no fault, or the first one is told with its status, or there was no memory. These are the faults that there may be.
pub data Finds (faulty : Fault → Type 0) (status : ℕ) (d : FaultData) : Type 0 where
  sound : status ≡ 0 → ((f : Fault) → faulty f → ⊥) → IsNoFault d → Finds faulty status d
  first : (f : Fault) → faulty f → status ≡ fault_status f → FaultIs f d → Finds faulty status d
  no_memory : status ≡ 6 → IsNoFault d → Finds faulty status d

-- What a text is taken for: a program of any type, one of type `nat`, one that runs by value, the listing of a program's net, or from 4 on
-- a function of so many numbers.
pub record CallsFind (bytes : List ℕ) (taken status : ℕ) (d : FaultData) : Type 0 where
  pub program : taken ≡ 0 → Finds (FaultyText any_type bytes) status d
  pub number : taken ≡ 1 → Finds (FaultyText number bytes) status d
  pub by_value : taken ≡ 2 → Finds (FaultyText strict_number bytes) status d
  pub listing : taken ≡ 3 → Finds (FaultyListing bytes) status d
  pub function : (n : ℕ) → taken ≡ 4 + n → Finds (IsProgramFault (FaultyFunction n bytes)) status d

-- a program's text, or the schedule that is to be run on the program's net
abbrev pub CallsFindSchedule : List ℕ → List ℕ → ℕ → FaultData → Type 0
CallsFindSchedule bytes schedule status d = Finds (λ f. FaultyEither bytes (λ t. FaultySchedule t schedule f) f) status d
