use Rattle.schedule_log.specs.Logs.{tickets_in_log}
use Rattle.goi_tasks.specs.Parts.{FaultyReplay}
use Rattle.goi_tasks.proofs.Replayed.{leads_of, replayed, stops_by, stops_unmoved}
use Rattle.goi_tasks.proofs.replaying.report_log.Goals as goal

pub returns-clause-report : goal.returns-clause-report
returns-clause-report c =
    replayed c.args.net.now c.args.window c.args.log.now.entries c.in_ok-replayed.replayed c.requires.told c.in_ok-replayed.ensures
    c.status_of.result c.status_of.ensures c.in_ok-text.text.items c.in_ok-text.ensures _ c.plain.ensures

pub told_replay-requires-clause-leads : goal.told_replay-requires-clause-leads
told_replay-requires-clause-leads c =
    leads_of c.args.net.now c.args.log.now.entries c.in_ok-replayed.replayed c.in_ok-replayed.ensures

pub returns-in_err-replayed-clause-fault : goal.returns-in_err-replayed-clause-fault
returns-in_err-replayed-clause-fault c =
    let net = c.args.net.now in
    let tickets = tickets_in_log c.args.log.now.entries in
    stops_by c.from_residual.result _ (FaultyReplay net tickets) c.from_residual.ensures.1
    (stops_unmoved net tickets _ c.in_err-replayed.ensures)
