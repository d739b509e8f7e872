use Rattle.program_runs.specs.declared.calling.Calling.TheVariants.{ByName}
use Rattle.goi_tasks.proofs.judge.report_listing.Goals as goal

pub returns-clause-report : goal.returns-clause-report
returns-clause-report g c =
    let is = c.in_ok-net.ensures.net in
    record { term = is.term; lists = is.lists; so = c.in_ok-report.ensures ByName is.term is.runs }
