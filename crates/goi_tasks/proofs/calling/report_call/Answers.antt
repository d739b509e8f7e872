use Rattle.program_runs.specs.declared.calling.Calling.TheVariants.{ByName}
use Rattle.program_runs.specs.Nets.{RunsAs}
use Rattle.goi_tasks.specs.Seen.{output_of}
use Rattle.goi_tasks.specs.RunReports.{ReportsRun}
use Rattle.goi_tasks.proofs.Functions.{of_function, no_function}
use Rattle.goi_tasks.proofs.calling.report_call.Goals as goal

pub returns-clause-report : goal.returns-clause-report
returns-clause-report g c =
    of_function c.args.numbers.now c.args.bytes.now (λ t. RunsAs ByName t c.in_ok-net.net)
    (λ t. ReportsRun (g.C.Crew.count c.args.crew.now) c.args.budget ByName c.args.shown t (output_of c.in_ok-report.field-0))
    c.in_ok-net.ensures.net (λ t is. c.in_ok-report.ensures ByName t is)

pub returns-in_err-net-clause-fault : goal.returns-in_err-net-clause-fault
returns-in_err-net-clause-fault g c =
    no_function c.args.numbers.now c.args.bytes.now c.from_residual.result _ c.from_residual.ensures.1 c.in_err-net.ensures.fault
