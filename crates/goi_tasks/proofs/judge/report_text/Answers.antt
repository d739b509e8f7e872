use Rattle.goi_jobs.specs.declared.task.Task.TheVariants.{Check, ShowNet, Span, Steps}
use Rattle.goi_tasks.proofs.Texts.{by_these}
use Rattle.goi_tasks.proofs.judge.report_text.Goals as goal

pub returns-in-Check-clause-report : goal.returns-in-Check-clause-report
returns-in-Check-clause-report g c =
    by_these c.args.task (Check _) c.in-Check.is c.args.bytes.now (g.C.Crew.count c.args.crew.now) c.report_check.result
    c.report_check.ensures.report

pub returns-in-ShowNet-clause-report : goal.returns-in-ShowNet-clause-report
returns-in-ShowNet-clause-report g c =
    by_these c.args.task ShowNet c.in-ShowNet.is c.args.bytes.now (g.C.Crew.count c.args.crew.now) c.report_net.result
    c.report_net.ensures.report

pub returns-in-Span-clause-report : goal.returns-in-Span-clause-report
returns-in-Span-clause-report g c =
    by_these c.args.task (Span _ _ _ _) c.in-Span.is c.args.bytes.now (g.C.Crew.count c.args.crew.now) c.report_span.result
    c.report_span.ensures.report

pub returns-in-Steps-clause-report : goal.returns-in-Steps-clause-report
returns-in-Steps-clause-report g c =
    by_these c.args.task (Steps _ _) c.in-Steps.is c.args.bytes.now (g.C.Crew.count c.args.crew.now) c.report_steps.result
    c.report_steps.ensures.report
