-- Why what came of a task, given back, is what the call promises.
use Rattle.std.proofs.Common.{◌≡◌, ℕ, List, Result, Ok, Err, subst, inl, inr}
use Rattle.std.specs.Prelude.{IfOk, IfErr}
use Rattle.goi_tasks.specs.declared.telling.ValueAndMoves.{ValueAndMoves}
use Rattle.goi_tasks.specs.declared.fault.Fault.{Fault}
use Rattle.goi_tasks.specs.declared.report.Report.{Report}
use Rattle.goi_tasks.specs.declared.stop.Stop.{Stop}
use Rattle.goi_tasks.specs.declared.stop.Stop.TheVariants as stop
use Rattle.goi_tasks.specs.Outputs.{Output}
use Rattle.goi_tasks.specs.Seen.{output_of}
use Rattle.program_runs.specs.declared.calling.Calling.{Calling}
use Rattle.goi_tasks.specs.Told.{TellsText}
use Rattle.goi_tasks.specs.Stops.{StopsFor}
use Rattle.goi_jobs.specs.declared.task.Task.{Task}
use Rattle.goi_tasks.specs.Tasks.{ReportsText, FaultyFor}
use Rattle.goi_tasks.specs.declared.answer.Answer.{Answer}
use Rattle.goi_tasks.specs.Backs.{Back}
use Rattle.goi_c.specs.Calls.{Calls, CallsTask, prints, refuses, no_memory, TellsRun, ran, refused, no_memory as told_no_memory}
use Rattle.goi_c.specs.Calls.{tell_task}
use Rattle.goi_tasks.specs.Giving.{OfStop, OfResult}
use Rattle.goi_c.specs.Giving.{OfTold}

module _ (right : Output → Type 0) (faulty : Fault → Type 0) where
  -- a fault that is there, or no memory
  stopped : (s : Stop) (b : Back) → StopsFor faulty s → OfStop s b → Calls right faulty b
  stopped stop.Memory b h g = no_memory g
  stopped (stop.Fault f) b h (inl (line, is, g)) = refuses f line h is g
  stopped (stop.Fault f) b h (inr g) = no_memory g

  -- and what came of a task
  pub called : (r : Result Report Stop) (b : Back) → IfOk r (λ x. right (output_of x)) → IfErr r (λ e. StopsFor faulty e) → OfResult r b →
      Calls right faulty b
  called (Ok x) b ok err g = prints (output_of x) ok g
  called (Err s) b ok err g = stopped s b err g

-- what a run came to, as numbers
pub told : (calling : Calling) (budget : ℕ) (bytes : List ℕ) (r : Result ValueAndMoves Stop) (a : Answer)
    (b : Back) →
    IfOk r (λ t. TellsText calling budget bytes t.answer t.moves) →
    IfErr r (λ e. StopsFor (FaultyFor (tell_task calling budget) bytes) e) → OfTold r a b → TellsRun calling budget bytes a b
told calling budget bytes (Ok t) a b ok err (answer, nothing) = ran t.answer t.moves ok answer nothing
told calling budget bytes (Err stop.Memory) a b ok err (none, g) = told_no_memory none g
told calling budget bytes (Err (stop.Fault f)) a b ok err (none, inl (line, is, g)) = refused f line err is none g
told calling budget bytes (Err (stop.Fault f)) a b ok err (none, inr g) = told_no_memory none g

-- ---- the numbers of a call name its task

pub called_as : (task own : Task) → task ≡ own → (bytes : List ℕ) (r : Result Report Stop) (b : Back) →
    IfOk r (λ x. ReportsText 1 task bytes (output_of x)) → IfErr r (λ e. StopsFor (FaultyFor task bytes) e) → OfResult r b →
    CallsTask own bytes b
called_as task own e bytes r b ok err g =
    subst (λ (t : Task). CallsTask t bytes b) e (called (ReportsText 1 task bytes) (FaultyFor task bytes) r b ok err g)

pub told_as : (calling own : Calling) → calling ≡ own → (budget : ℕ) (bytes : List ℕ) (r : Result ValueAndMoves Stop)
    (a : Answer) (b : Back) →
    IfOk r (λ t. TellsText calling budget bytes t.answer t.moves) →
    IfErr r (λ e. StopsFor (FaultyFor (tell_task calling budget) bytes) e) → OfTold r a b → TellsRun own budget bytes a b
told_as calling own e budget bytes r a b ok err g =
    subst (λ (k : Calling). TellsRun k budget bytes a b) e (told calling budget bytes r a b ok err g)
