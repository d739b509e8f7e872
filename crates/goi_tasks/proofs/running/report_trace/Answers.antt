use Rattle.goi_tasks.proofs.RunReports.{reports_trace}
use Rattle.goi_tasks.proofs.running.report_trace.Goals as goal

pub returns : goal.returns
returns g c = λ calling t is.
    let walked = c.in_ok-walked.walked in
    reports_trace c.args.net.now (g.C.Crew.count c.args.crew.now) c.args.budget c.requires.budget walked.answer walked.log.entries
    c.in_ok-walked.ensures.run c.in_ok-walked.ensures.alone c.args.window c.status_of.result c.status_of.ensures
    c.in_ok-text.field-0.items c.in_ok-text.ensures _ c.plain.ensures calling t is
