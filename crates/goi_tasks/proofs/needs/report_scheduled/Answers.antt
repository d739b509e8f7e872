use Rattle.newest_runs.specs.Order.{newest_first}
use Rattle.goi_tasks.proofs.Counted.{booked_by_one, reports_schedule}
use Rattle.goi_tasks.proofs.needs.report_scheduled.Goals as goal

pub scheduled_text-text-requires : goal.scheduled_text-text-requires
scheduled_text-text-requires c =
    let made = c.in_ok-made.made in
    booked_by_one (newest_first c.args.net.now c.args.budget) made.log.entries c.in_ok-made.ensures.log

pub returns : goal.returns
returns c =
    let made = c.in_ok-made.made in
    let is = c.in_ok-made.ensures in
    reports_schedule c.args.net.now c.args.budget made.answer made.log.entries is.log is.answer
    c.status_of.result c.status_of.ensures c.in_ok-text.field-0.items c.in_ok-text.ensures _ c.plain.ensures
