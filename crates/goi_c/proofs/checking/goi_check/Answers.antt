use Rattle.goi_jobs.specs.declared.task.Task.TheVariants.{Check}
use Rattle.goi_c.proofs.Called.{called}
use Rattle.goi_c.proofs.Owned.{owned}
use Rattle.goi_c.proofs.checking.goi_check.Goals as goal

pub returns-clause-calls : goal.returns-clause-calls
returns-clause-calls c =
    let h = c.report_text-checked in
    called _ _ h.result _ h.ensures.report h.ensures.fault c.give_result.ensures

pub returns-clause-own : goal.returns-clause-own
returns-clause-own c =
    let h = c.report_text-checked in
    owned _ _ _ (c.law_tasks_settled.ensures.tasks 1 (Check c.args.term) c.args.text.now) _
    (called _ _ h.result _ h.ensures.report h.ensures.fault c.give_result.ensures)
