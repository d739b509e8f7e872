use Rattle.goi_tasks.specs.Seen.{output_of}
use Rattle.goi_tasks.specs.Rounds.{ReportsSpan}
use Rattle.program_runs.specs.Programs.{wanted_by_run}
use Rattle.goi_tasks.proofs.Texts.{no_net, of_net}
use Rattle.goi_tasks.proofs.span.report_span.Goals as goal

pub returns-clause-report : goal.returns-clause-report
returns-clause-report c = λ workers.
    of_net c.args.calling c.args.bytes.now c.in_ok-net.net
    (λ t. ReportsSpan c.args.budget c.args.calling c.args.parts.profile c.args.parts.schedule t (output_of c.in_ok-report.field-0))
    c.in_ok-net.ensures.net (λ t is. c.in_ok-report.ensures c.args.calling t is)

pub returns-in_err-net-clause-fault : goal.returns-in_err-net-clause-fault
returns-in_err-net-clause-fault c =
    no_net (wanted_by_run c.args.calling) c.args.bytes.now c.from_residual.result _ c.from_residual.ensures.1 c.in_err-net.ensures.fault
