-- Why what comes of a text is settled by its bytes, for whoever looks at it from outside.
use Rattle.std.proofs.Common.{◌≡◌, ℕ, List, Option, None, refl, subst, inl, inr}
use Rattle.pcf_values.specs.declared.val.Val.{Val}
use Rattle.pcf_values.specs.Terms.{TermTree}
use Rattle.program_runs.specs.declared.calling.Calling.{Calling}
use Rattle.program_runs.specs.Programs.{number, wanted_by_run, OfGround}
use Rattle.program_runs.specs.Runs.{net_run}
use Rattle.program_runs.proofs.OneProgram.{same_ground, same_program}
use Rattle.function_runs.specs.Laws.{OneFunction}
use Rattle.goi_tasks.specs.declared.fault.Fault.{Fault}
use Rattle.goi_jobs.specs.declared.task.Task.{Task}
use Rattle.goi_jobs.specs.declared.task.Task.TheVariants.{Run}
use Rattle.goi_tasks.specs.Outputs.{Output}
use Rattle.goi_tasks.specs.Programs.{FaultyEither}
use Rattle.goi_tasks.specs.Replaying.{replay_status, ReportsReplay, EndsReplay, FaultySchedule}
use Rattle.goi_tasks.specs.RunReports.{EndsRun}
use Rattle.goi_tasks.specs.Told.{TellsText}
use Rattle.goi_tasks.specs.Settles.{Settles, TextsSettle, status_of_output, status_of_run}
use Rattle.goi_jobs.specs.Tasks.{nothing_shown}
use Rattle.goi_tasks.specs.Tasks.{ReportsText, FaultyFor, EndsText}
use Rattle.goi_tasks.proofs.Functions.{call_settles}
use Rattle.goi_tasks.proofs.Printed.{verilog_settles}
use Rattle.goi_tasks.proofs.Outcomes.{Known, ground_sound, text_sound, one_text_fault, text_end, report_sound}
use Rattle.goi_tasks.proofs.Outcomes.{end_sound, one_fault_for, schedule_sound, one_schedule_fault, replay_end, one_run_end, run_ends}

module _ (known : Known) where
  task_settles : (workers : ℕ) (task : Task) (bytes : List ℕ) →
      Settles status_of_output (ReportsText workers task bytes) (EndsText task bytes) (FaultyFor task bytes)
  task_settles workers task bytes = record {
    one_status = λ o own h k. text_end known workers task bytes o own h k;
    right_or_faulty = λ o f h k. report_sound known workers task bytes o f h k;
    ends_or_faulty = λ own f h k. end_sound known task bytes own f h k;
    one_fault = λ f g h k. one_fault_for known task bytes f g h k;
  }

  -- a run in numbers ends as the run does
  numbers_end : (calling : Calling) (budget : ℕ) (bytes : List ℕ) (answer : Option Val) (moves own : ℕ) →
      TellsText calling budget bytes answer moves → EndsText (Run budget calling nothing_shown) bytes own →
      replay_status answer ≡ own
  numbers_end calling budget bytes answer moves own h k =
      let e : h.term ≡ k.term = same_program known.one_program (wanted_by_run calling) bytes _ _ h k in
      one_run_end budget (net_run calling k.term) (replay_status answer) own
      (subst (λ (t : TermTree). EndsRun budget (net_run calling t) (replay_status answer)) e
      (run_ends _ (net_run calling h.term) budget answer moves (replay_status answer) refl h.so)) k.so

  numbers_settle : (calling : Calling) (budget : ℕ) (bytes : List ℕ) →
      Settles status_of_run (λ r. TellsText calling budget bytes r.0 r.1) (EndsText (Run budget calling nothing_shown) bytes)
      (FaultyFor (Run budget calling nothing_shown) bytes)
  numbers_settle calling budget bytes = record {
    one_status = λ r own h k. numbers_end calling budget bytes r.0 r.1 own h k;
    right_or_faulty = λ r f h k. text_sound known.one_program (wanted_by_run calling) bytes h.tree h.term h.type f h.is k;
    ends_or_faulty = λ own f h k. end_sound known (Run budget calling nothing_shown) bytes own f h k;
    one_fault = λ f g h k. one_fault_for known (Run budget calling nothing_shown) bytes f g h k;
  }

  -- ---- a schedule on the net of a program

  module _ (bytes schedule : List ℕ) where
    abbrev Faulty : Fault → Type 0
    Faulty f = FaultyEither bytes (λ t. FaultySchedule t schedule f) f

    -- both of one program
    both : (P Q : TermTree → Type 0) → OfGround bytes P → OfGround bytes Q → (t : TermTree) × P t × Q t
    both P Q (t, g, p) (u, h, q) = (u, subst P (same_ground known.one_program bytes t u g h) p, q)

    replays_end : (o : Output) (own : ℕ) → OfGround bytes (λ t. ReportsReplay t None schedule o) →
        OfGround bytes (λ t. EndsReplay t schedule own) → o.status ≡ own
    replays_end o own h k =
        let (t, r, e) = both (λ t. ReportsReplay t None schedule o) (λ t. EndsReplay t schedule own) h k in
        replay_end known t None schedule o own r e

    replays_sound : (o : Output) (f : Fault) → OfGround bytes (λ t. ReportsReplay t None schedule o) → Faulty f → ⊥
    replays_sound o f (t, g, r) (inl k) = ground_sound known.one_program bytes t f g k
    replays_sound o f h (inr k) =
        let (t, r, s) = both (λ t. ReportsReplay t None schedule o) (λ t. FaultySchedule t schedule f) h k in
        schedule_sound known t schedule f r.tickets r.state r.schedule r.led s

    ends_sound : (own : ℕ) (f : Fault) → OfGround bytes (λ t. EndsReplay t schedule own) → Faulty f → ⊥
    ends_sound own f (t, g, r) (inl k) = ground_sound known.one_program bytes t f g k
    ends_sound own f h (inr k) =
        let (t, r, s) = both (λ t. EndsReplay t schedule own) (λ t. FaultySchedule t schedule f) h k in
        schedule_sound known t schedule f r.tickets r.state r.schedule r.led s

    one_either : (f g : Fault) → Faulty f → Faulty g → f ≡ g
    one_either f g (inl h) (inl k) = one_text_fault known number bytes f g h k
    one_either f g (inl h) (inr (t, k, x)) = absurd (ground_sound known.one_program bytes t f k h)
    one_either f g (inr (t, h, x)) (inl k) = absurd (ground_sound known.one_program bytes t g h k)
    one_either f g (inr h) (inr k) =
        let (t, r, s) = both (λ t. FaultySchedule t schedule f) (λ t. FaultySchedule t schedule g) h k in
        one_schedule_fault known t schedule f g r s

    replay_settles : Settles status_of_output (λ o. OfGround bytes (λ t. ReportsReplay t None schedule o))
        (λ own. OfGround bytes (λ t. EndsReplay t schedule own)) Faulty
    replay_settles = record {
      one_status = λ o own h k. replays_end o own h k;
      right_or_faulty = λ o f h k. replays_sound o f h k;
      ends_or_faulty = λ own f h k. ends_sound own f h k;
      one_fault = λ f g h k. one_either f g h k;
    }

  -- ---- all of them

  pub texts_settle : OneFunction → TextsSettle
  texts_settle one = record {
    tasks = task_settles;
    numbers = numbers_settle;
    replays = replay_settles;
    calls = λ workers budget shown numbers bytes. call_settles one numbers bytes workers budget shown;
    verilogs = verilog_settles known;
  }
