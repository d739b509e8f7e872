use Rattle.goi_tasks.proofs.Counted.{reports_bench}
use Rattle.goi_tasks.proofs.bench.report_net_bench.Goals as goal

pub returns : goal.returns
returns c =
    let needs = c.in_ok-needs.needs in
    let is = c.in_ok-needs.ensures in
    reports_bench c.args.name.now c.args.net.now c.args.budget needs.answer needs.moves is.moves is.answer
    c.status_of.result c.status_of.ensures c.in_ok-text.text.items c.in_ok-text.ensures _ c.plain.ensures
