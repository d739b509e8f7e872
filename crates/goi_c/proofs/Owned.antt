-- Why a call ends with the status that is due, but for room and memory: its text has one status or one fault.
use Rattle.std.proofs.Common.{◌≡◌, ℕ, List, ap, ◌∙◌, inl, inr}
use Rattle.goi_tasks.specs.declared.fault.Fault.{Fault}
use Rattle.goi_tasks.specs.Outputs.{Output}
use Rattle.goi_tasks.specs.Refusals.{fault_status}
use Rattle.program_runs.specs.declared.calling.Calling.{Calling}
use Rattle.goi_tasks.specs.Told.{TellsText}
use Rattle.goi_tasks.specs.Settles.{Settles, status_of_output, status_of_run}
use Rattle.goi_tasks.specs.Tasks.{FaultyFor, EndsText}
use Rattle.goi_tasks.specs.declared.answer.Answer.{Answer}
use Rattle.goi_tasks.specs.Backs.{Back, Comes, Gives}
use Rattle.goi_c.specs.Calls.{Calls, prints, refuses, no_memory, Owns, OwnsTask}
use Rattle.goi_c.specs.Calls.{TellsRun, ran, refused, no_memory as told_no_memory, tell_task}

-- what is given back comes with its status, or for want of room
given : (status own : ℕ) (text : List ℕ) (b : Back) → status ≡ own → Gives status text b → Comes own b
given status own text b e (inl p) = inl (p.status_is ∙ e)
given status own text b e (inr p) = inr (inl p.status_is)

-- a task on a text
module _ (right : Output → Type 0) (ends : ℕ → Type 0) (faulty : Fault → Type 0)
    (s : Settles status_of_output right ends faulty) (b : Back) where
  pub owned : Calls right faulty b → Owns ends faulty b
  owned (prints o r g) = record {
    done = λ own e. given o.status own o.report b (s.one_status o own r e) g;
    refused = λ f k. absurd (s.right_or_faulty o f r k);
  }
  owned (refuses f line h is g) = record {
    done = λ own e. absurd (s.ends_or_faulty own f e h);
    refused = λ x k. given (fault_status f) (fault_status x) line b (ap fault_status (s.one_fault f x h k)) g;
  }
  owned (no_memory n) = record { done = λ own e. inr (inr n.status_is); refused = λ f k. inr (inr n.status_is) }

-- a run in numbers
module _ (calling : Calling) (budget : ℕ) (bytes : List ℕ) (s : Settles status_of_run (λ r. TellsText calling budget bytes r.0 r.1)
    (EndsText (tell_task calling budget) bytes) (FaultyFor (tell_task calling budget) bytes)) (a : Answer) (b : Back) where
  pub told_owned : TellsRun calling budget bytes a b → OwnsTask (tell_task calling budget) bytes b
  told_owned (ran answer moves t is n) = record {
    done = λ own e. inl (n.status_is ∙ s.one_status (answer, moves) own t e);
    refused = λ f k. absurd (s.right_or_faulty (answer, moves) f t k);
  }
  told_owned (refused f line h is none g) = record {
    done = λ own e. absurd (s.ends_or_faulty own f e h);
    refused = λ x k. given (fault_status f) (fault_status x) line b (ap fault_status (s.one_fault f x h k)) g;
  }
  told_owned (told_no_memory none n) = record { done = λ own e. inr (inr n.status_is); refused = λ f k. inr (inr n.status_is) }
