use Rattle.std.proofs.Common.{arith}
use Rattle.goi_c.specs.Calls.{part, steps_task}
use Rattle.goi_c.proofs.Called.{called}
use Rattle.goi_c.proofs.Owned.{owned}
use Rattle.goi_c.proofs.stepping.goi_steps.Goals as goal

pub returns-clause-calls : goal.returns-clause-calls
returns-clause-calls c =
    let h = c.report_text-reduced in
    record {
      right = λ asked. called _ _ h.result _ h.ensures.report h.ensures.fault c.give_result.ensures;
      wrong = λ n.
          absurd (n (
            (omega (arith, c.if-budget-lt1.false), omega (arith, c.if-budget-gt-BUDGET.false)),
            (
              omega (arith, c.if-from-gt-SCHEDULE_MOVES.false),
              (omega (arith, c.if-most-lt1.false), omega (arith, c.if-most-gt-TOLD_STEPS.false)),
            ),
          ));
    }

pub returns-clause-own : goal.returns-clause-own
returns-clause-own c = λ asked.
    let h = c.report_text-reduced in
    owned _ _ _ (c.law_tasks_settled.ensures.tasks 1 (steps_task c.args.budget (part c.args.from c.args.most)) c.args.text.now) _
    (called _ _ h.result _ h.ensures.report h.ensures.fault c.give_result.ensures)
