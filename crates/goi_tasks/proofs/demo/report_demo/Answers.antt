use Rattle.goi_tasks.proofs.RunReports.{reports_demo}
use Rattle.goi_tasks.proofs.demo.report_demo.Goals as goal

pub returns : goal.returns
returns g c =
    reports_demo c.args.n (g.C.Crew.count c.args.crew.now) c.in_ok-ended.ended.answer c.in_ok-ended.ended.log.entries
    c.in_ok-ended.ensures c.status_of.result
    c.status_of.ensures c.nodes_of.result c.len.result c.nodes_of.ensures c.len.ensures c.in_ok-text.field-0.items
    c.in_ok-text.ensures.report _ c.plain.ensures
