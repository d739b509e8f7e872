use Rattle.std.proofs.Common.{sym, subst}
use Rattle.goi_jobs.specs.declared.task.Task.TheVariants.{Check}
use Rattle.goi_tasks.specs.Outputs.{Output}
use Rattle.goi_tasks.specs.Tasks.{ReportsText}
use Rattle.goi_tasks.proofs.program.report_check.Goals as goal

pub returns-clause-report : goal.returns-clause-report
returns-clause-report c = λ workers.
    subst (λ (o : Output). ReportsText workers (Check c.args.term) c.args.bytes.now o) (sym c.plain.ensures)
    (c.in_ok-check_text.ensures.report workers)
