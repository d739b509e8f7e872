use Rattle.pcf_values.specs.Terms.{TermTree}
use Rattle.program_runs.specs.declared.calling.Calling.TheVariants.{ByName}
use Rattle.program_runs.specs.Nets.{RunsAs}
use Rattle.schedule_log.specs.Logs.{tickets_in_log}
use Rattle.goi_tasks.specs.Replaying.{FaultySchedule}
use Rattle.goi_tasks.proofs.Replayed.{few_moves, read_so, rights, faulties, not_read, stops_by}
use Rattle.goi_tasks.proofs.replaying.report_replay.Goals as goal

pub report_log-report-requires-clause-few : goal.report_log-report-requires-clause-few
report_log-report-requires-clause-few c = few_moves c.args.bytes.now c.in_ok-log.log.entries c.in_ok-log.ensures.answer

pub report_log-report-requires-clause-told : goal.report_log-report-requires-clause-told
report_log-report-requires-clause-told c = read_so c.in_ok-log.log c.in_ok-log.ensures.log

pub returns-clause-report : goal.returns-clause-report
returns-clause-report c =
    rights c.args.net.now c.args.window c.args.bytes.now
    (tickets_in_log c.in_ok-log.log.entries) c.in_ok-log.ensures.answer c.report_log-report.result c.report_log-report.ensures.report

pub returns-clause-fault : goal.returns-clause-fault
returns-clause-fault c =
    faulties c.args.net.now c.args.bytes.now (tickets_in_log c.in_ok-log.log.entries) c.in_ok-log.ensures.answer c.report_log-report.result
    c.report_log-report.ensures.fault

pub returns-in_err-log-clause-fault : goal.returns-in_err-log-clause-fault
returns-in_err-log-clause-fault c =
    stops_by c.from_residual.result _ (λ f. (t : TermTree) → RunsAs ByName t c.args.net.now → FaultySchedule t c.args.bytes.now f)
    c.from_residual.ensures.1
    (not_read c.args.net.now c.args.bytes.now _ c.in_err-log.ensures.answer)
