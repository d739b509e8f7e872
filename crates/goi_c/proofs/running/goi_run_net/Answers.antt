use Rattle.std.proofs.Common.{arith}
use Rattle.goi_tasks.specs.Asked.{listed_task}
use Rattle.goi_c.proofs.Called.{called_as}
use Rattle.goi_c.proofs.Owned.{owned}
use Rattle.goi_c.proofs.Roomy.{listed_fits}
use Rattle.goi_c.proofs.running.goi_run_net.Goals as goal

pub returns-clause-calls : goal.returns-clause-calls
returns-clause-calls c =
    let h = c.report_text-ran in
    record {
      right = λ asked.
          called_as _ (listed_task c.args.budget c.args.schedule) c.net_task.ensures c.args.text.now h.result _ h.ensures.report
          h.ensures.fault c.give_result.ensures;
      wrong = λ n. absurd (n (omega (arith, c.if-budget-lt1.false), omega (arith, c.if-budget-gt-BUDGET.false)));
    }

pub returns-clause-own : goal.returns-clause-own
returns-clause-own c = λ asked.
    let h = c.report_text-ran in
    owned _ _ _ (c.law_tasks_settled.ensures.tasks 1 (listed_task c.args.budget c.args.schedule) c.args.text.now) _
    (called_as _ (listed_task c.args.budget c.args.schedule) c.net_task.ensures c.args.text.now h.result _ h.ensures.report
    h.ensures.fault c.give_result.ensures)

pub returns-clause-room : goal.returns-clause-room
returns-clause-room c = λ none room.
    let h = c.report_text-ran in
    listed_fits c.args.budget c.args.schedule none c.args.text.now _ _
    (called_as _ (listed_task c.args.budget c.args.schedule) c.net_task.ensures c.args.text.now h.result _ h.ensures.report
    h.ensures.fault c.give_result.ensures) room
