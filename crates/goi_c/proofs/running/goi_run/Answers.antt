use Rattle.std.proofs.Common.{◌≡◌, ℕ, zero, suc, ◌<◌, false, refl, arith}
use Rattle.goi_tasks.specs.Asked.{schedule_in, run_task}
use Rattle.goi_c.proofs.Called.{called_as}
use Rattle.goi_c.proofs.Owned.{owned}
use Rattle.goi_c.proofs.Roomy.{run_fits}
use Rattle.goi_c.proofs.running.goi_run.Goals as goal

none_in : (flags : ℕ) → flags < 2 → schedule_in flags ≡ false
none_in zero h = refl
none_in (suc zero) h = refl
none_in (suc (suc n)) h = absurd (omega (arith, h))

pub returns-clause-calls : goal.returns-clause-calls
returns-clause-calls c =
    let h = c.report_text-ran in
    record {
      right = λ asked.
          called_as _ (run_task c.args.budget c.args.flags) c.run_task.ensures c.args.text.now h.result _ h.ensures.report h.ensures.fault
          c.give_result.ensures;
      wrong = λ n.
          absurd (n (
            (omega (arith, c.if-budget-lt1.false), omega (arith, c.if-budget-gt-BUDGET.false)),
            omega (arith, c.if-flags-ge4.false),
          ));
    }

pub returns-clause-own : goal.returns-clause-own
returns-clause-own c = λ asked.
    let h = c.report_text-ran in
    owned _ _ _ (c.law_tasks_settled.ensures.tasks 1 (run_task c.args.budget c.args.flags) c.args.text.now) _
    (called_as _ (run_task c.args.budget c.args.flags) c.run_task.ensures c.args.text.now h.result _ h.ensures.report h.ensures.fault
    c.give_result.ensures)

pub returns-clause-room : goal.returns-clause-room
returns-clause-room c = λ few room.
    let h = c.report_text-ran in
    run_fits c.args.budget _ _ (none_in c.args.flags few) c.args.text.now _ _
    (called_as _ (run_task c.args.budget c.args.flags) c.run_task.ensures c.args.text.now h.result _ h.ensures.report h.ensures.fault
    c.give_result.ensures) room
