use Rattle.std.proofs.Common.{arith}
use Rattle.goi_tasks.specs.Asked.{span_task}
use Rattle.goi_c.proofs.Called.{called_as}
use Rattle.goi_c.proofs.Owned.{owned}
use Rattle.goi_c.proofs.spanning.goi_span.Goals as goal

pub returns-clause-calls : goal.returns-clause-calls
returns-clause-calls c =
    let h = c.report_text-spanned in
    record {
      right = λ asked.
          called_as _ (span_task c.args.budget c.args.flags) c.span_task.ensures c.args.text.now h.result _ h.ensures.report
          h.ensures.fault c.give_result.ensures;
      wrong = λ n.
          absurd (n (
            (omega (arith, c.if-budget-lt1.false), omega (arith, c.if-budget-gt-BUDGET.false)),
            omega (arith, c.if-flags-ge8.false),
          ));
    }

pub returns-clause-own : goal.returns-clause-own
returns-clause-own c = λ asked.
    let h = c.report_text-spanned in
    owned _ _ _ (c.law_tasks_settled.ensures.tasks 1 (span_task c.args.budget c.args.flags) c.args.text.now) _
    (called_as _ (span_task c.args.budget c.args.flags) c.span_task.ensures c.args.text.now h.result _ h.ensures.report h.ensures.fault
    c.give_result.ensures)
