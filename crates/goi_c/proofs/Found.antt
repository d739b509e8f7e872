-- Why what is told in numbers is the first fault of a text.
use Rattle.std.proofs.Common.{◌≡◌, ℕ, ◌<◌, ◌≤◌, ◌-◌, List, Result, Ok, Err, IfOk, IfErr, ap, ◌∙◌, subst, arith}
use Rattle.pcf_values.specs.Terms.{TermTree}
use Rattle.function_runs.specs.Functions.{CompilesText, FaultyFunction}
use Rattle.function_runs.specs.Laws.{OneFunction}
use Rattle.goi_tasks.specs.declared.fault.Fault.{Fault}
use Rattle.goi_tasks.specs.declared.report.Report.{Report}
use Rattle.goi_tasks.specs.declared.stop.Stop.{Stop}
use Rattle.goi_tasks.specs.declared.stop.Stop.TheVariants as stop
use Rattle.goi_jobs.specs.declared.task.Task.{Task}
use Rattle.goi_tasks.specs.Outputs.{Output}
use Rattle.goi_tasks.specs.Seen.{output_of}
use Rattle.goi_tasks.specs.Programs.{IsProgramFault, no_program}
use Rattle.goi_tasks.specs.Stops.{StopsFor}
use Rattle.goi_tasks.specs.Tasks.{FaultyFor}
use Rattle.goi_tasks.specs.Asked.{taken_task}
use Rattle.goi_c.specs.declared.finding.FaultData.{FaultData}
use Rattle.goi_c.specs.Finding.{CallsFind, Finds, sound, first, no_memory}
use Rattle.goi_c.specs.Giving.{Fills, FillsResult}

-- a fault that is there, or no memory
pub stopped : (faulty : Fault → Type 0) (s : Stop) (status : ℕ) (d : FaultData) → StopsFor faulty s → Fills s status d →
    Finds faulty status d
stopped faulty stop.Memory status d h (e, none) = no_memory e none
stopped faulty (stop.Fault f) status d h (e, is) = first f h e is

-- and what came of a task, which excludes a fault
pub found : (right : Output → Type 0) (faulty : Fault → Type 0) → ((o : Output) (f : Fault) → right o → faulty f → ⊥) →
    (r : Result Report Stop) (status : ℕ) (d : FaultData) → IfOk r (λ x. right (output_of x)) → IfErr r (λ e. StopsFor faulty e) →
    FillsResult r status d → Finds faulty status d
found right faulty apart (Ok x) status d ok err (e, none) = sound e (λ f k. apart (output_of x) f ok k) none
found right faulty apart (Err s) status d ok err g = stopped faulty s status d err g

-- a function has no fault
pub no_fault : OneFunction → (n : ℕ) (bytes : List ℕ) (f : TermTree × ℕ) → CompilesText bytes n f → (g : Fault) →
    IsProgramFault (FaultyFunction n bytes) g → ⊥
no_fault law n bytes f h _ (no_program g k) = law.not_both n bytes f g h k

-- what a text is taken for
pub taken_for : (bytes : List ℕ) (taken status : ℕ) (d : FaultData) → taken < 4 → (task : Task) → task ≡ taken_task taken →
    Finds (FaultyFor task bytes) status d → CallsFind bytes taken status d
taken_for bytes taken status d small task e h =
    let at : (k : ℕ) → taken ≡ k → Finds (FaultyFor (taken_task k) bytes) status d = λ k z.
    subst (λ (t : Task). Finds (FaultyFor t bytes) status d) (e ∙ ap taken_task z) h in
    record {
      program = λ z. at 0 z;
      number = λ z. at 1 z;
      by_value = λ z. at 2 z;
      listing = λ z. at 3 z;
      function = λ n z. absurd (omega (arith, small, z));
    }

-- and where it is taken for a function, of so many numbers as lie above 4
pub taken_as_function : (bytes : List ℕ) (taken k status : ℕ) (d : FaultData) → 4 ≤ taken → k ≡ taken - 4 →
    Finds (IsProgramFault (FaultyFunction k bytes)) status d → CallsFind bytes taken status d
taken_as_function bytes taken k status d large e h = record {
  program = λ z. absurd (omega (arith, large, z));
  number = λ z. absurd (omega (arith, large, z));
  by_value = λ z. absurd (omega (arith, large, z));
  listing = λ z. absurd (omega (arith, large, z));
  function = λ n z.
      (let same : k ≡ n = omega (arith, e, z) in
      subst (λ m. Finds (IsProgramFault (FaultyFunction m bytes)) status d) same h);
}
