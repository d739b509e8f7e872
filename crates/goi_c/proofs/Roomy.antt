-- Why a buffer for a line has room for whatever a run gives back that doesn't tell its schedule.
use Rattle.std.proofs.Common.{◌≡◌, ◌≢◌, ℕ, ◌≤◌, Bool, false, List, length, Option, Some, None, refl, sym, ◌∙◌, inl, inr, arith}
use Rattle.pcf_values.specs.declared.val.Val.{Val}
use Rattle.goi_tasks.specs.declared.fault.Fault.{Fault}
use Rattle.goi_tasks.specs.declared.fault.Fault.TheVariants as fault
use Rattle.goi_jobs.specs.declared.task.Task.TheVariants.{Run}
use Rattle.program_runs.specs.declared.calling.Calling.{Calling}
use Rattle.goi_tasks.specs.Outputs.{Output}
use Rattle.goi_tasks.specs.Refusals.{most_line, fault_status}
use Rattle.goi_tasks.specs.Replaying.{replay_status}
use Rattle.goi_jobs.specs.Tasks.{shown}
use Rattle.goi_tasks.specs.Tasks.{ReportsText}
use Rattle.goi_tasks.specs.declared.answer.Answer.{Answer}
use Rattle.goi_tasks.specs.Backs.{Back, Gives}
use Rattle.goi_tasks.specs.Asked.{listed_task}
use Rattle.goi_c.specs.Calls.{Calls, prints, refuses, no_memory, HasRoom, TellsRun, ran, refused, no_memory as told_no_memory}

-- a short text with another status than that of no room finds room
roomy : (b : Back) (status : ℕ) (text : List ℕ) → length text ≤ most_line → status ≢ 4 → Gives status text b → HasRoom b
roomy b status text short other (inl p) room = λ f. other (sym p.status_is ∙ f)
roomy b status text short other (inr p) room = λ f. omega (arith, short, room, p.lacks)

-- no status of a run is that of no room, nor that of a fault
ended : (answer : Option Val) (status : ℕ) → status ≡ replay_status answer → status ≢ 4
ended (Some v) status e = λ f. omega (arith, e, f)
ended None status e = λ f. omega (arith, e, f)

refused_other : (f : Fault) → fault_status f ≢ 4
refused_other (fault.Program f) = λ e. omega (arith, e)
refused_other (fault.NetText f) = λ e. omega (arith, e)
refused_other (fault.Schedule f) = λ e. omega (arith, e)
refused_other (fault.Moves f) = λ e. omega (arith, e)
refused_other (fault.Batch f) = λ e. omega (arith, e)

-- a call whose outputs are lines finds room
lines_fit : (right : Output → Type 0) (faulty : Fault → Type 0) →
    ((o : Output) → right o → (length o.report ≤ most_line) × (o.status ≢ 4)) → (b : Back) → Calls right faulty b → HasRoom b
lines_fit right faulty lines b (prints o r g) room = roomy b o.status o.report (lines o r).0 (lines o r).1 g room
lines_fit right faulty lines b (refuses f line h is g) room = roomy b (fault_status f) line is.short (refused_other f) g room
lines_fit right faulty lines b (no_memory n) room = λ f. (let e = n.status_is in omega (arith, e, f))

-- and a run without its schedule tells lines
pub run_fits : (budget : ℕ) (schedule : Bool) (calling : Calling) → schedule ≡ false → (bytes : List ℕ) (faulty : Fault → Type 0)
    (b : Back) → Calls (ReportsText 1 (Run budget calling (shown schedule false false)) bytes) faulty b → HasRoom b
run_fits budget schedule calling none bytes faulty b =
    lines_fit (ReportsText 1 (Run budget calling (shown schedule false false)) bytes) faulty
    (λ o r. (r.so.short none refl, ended r.so.answer o.status r.so.ends)) b

pub listed_fits : (budget : ℕ) (schedule : Bool) → schedule ≡ false → (bytes : List ℕ) (faulty : Fault → Type 0) (b : Back) →
    Calls (ReportsText 1 (listed_task budget schedule) bytes) faulty b → HasRoom b
listed_fits budget schedule none bytes faulty b =
    lines_fit (ReportsText 1 (listed_task budget schedule) bytes) faulty
    (λ o r. (r.so.short none refl, ended r.so.answer o.status r.so.ends)) b

-- and so does a run in numbers
pub told_fits : (calling : Calling) (budget : ℕ) (bytes : List ℕ) (a : Answer) (b : Back) → TellsRun calling budget bytes a b → HasRoom b
told_fits calling budget bytes a b (ran answer moves t is n) room = λ f. ended answer (replay_status answer) refl (sym n.status_is ∙ f)
told_fits calling budget bytes a b (refused f line h is none g) room = roomy b (fault_status f) line is.short (refused_other f) g room
told_fits calling budget bytes a b (told_no_memory none n) room = λ f. (let e = n.status_is in omega (arith, e, f))
