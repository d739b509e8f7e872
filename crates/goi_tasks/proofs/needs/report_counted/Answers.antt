use Rattle.goi_tasks.proofs.Counted.{reports_needs}
use Rattle.goi_tasks.proofs.needs.report_counted.Goals as goal

pub returns : goal.returns
returns c =
    let needs = c.in_ok-needs.needs in
    let is = c.in_ok-needs.ensures in
    reports_needs c.args.net.now c.args.budget needs.answer needs.moves is.moves is.answer c.in_ok-counts.counts c.in_ok-counts.ensures
    c.status_of.result c.status_of.ensures c.in_ok-text.text.items c.in_ok-text.ensures _ c.plain.ensures
