use Rattle.std.proofs.Common.{arith}
use Rattle.goi_tasks.specs.Asked.{trace_task}
use Rattle.goi_c.specs.Calls.{part}
use Rattle.goi_c.proofs.Called.{called_as}
use Rattle.goi_c.proofs.Owned.{owned}
use Rattle.goi_c.proofs.running.goi_trace.Goals as goal

pub returns-clause-calls : goal.returns-clause-calls
returns-clause-calls c =
    let h = c.report_text-traced in
    record {
      right = λ asked.
          called_as _ (trace_task c.args.budget c.args.flags (part c.args.from c.args.most)) c.trace_task-task.ensures c.args.text.now
          h.result _ h.ensures.report h.ensures.fault c.give_result.ensures;
      wrong = λ n.
          absurd (n (
            (
              (omega (arith, c.if-budget-lt1.false), omega (arith, c.if-budget-gt-BUDGET.false)),
              omega (arith, c.if-flags-ge2.false),
            ),
            (
              omega (arith, c.if-from-gt-SCHEDULE_MOVES.false),
              (omega (arith, c.if-most-lt1.false), omega (arith, c.if-most-gt-TRACED_MOVES.false)),
            ),
          ));
    }

pub returns-clause-own : goal.returns-clause-own
returns-clause-own c = λ asked.
    let h = c.report_text-traced in
    let own = trace_task c.args.budget c.args.flags (part c.args.from c.args.most) in
    owned _ _ _ (c.law_tasks_settled.ensures.tasks 1 own c.args.text.now) _
    (called_as _ own c.trace_task-task.ensures c.args.text.now h.result _ h.ensures.report h.ensures.fault c.give_result.ensures)
