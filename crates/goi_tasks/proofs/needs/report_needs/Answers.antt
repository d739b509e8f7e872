use Rattle.goi_tasks.specs.Seen.{output_of}
use Rattle.goi_tasks.specs.Needs.{ReportsNeeds}
use Rattle.program_runs.specs.Programs.{number}
use Rattle.program_runs.specs.declared.calling.Calling.TheVariants.{ByName}
use Rattle.goi_tasks.proofs.Texts.{no_net, of_net}
use Rattle.goi_tasks.proofs.needs.report_needs.Goals as goal

pub returns-clause-report : goal.returns-clause-report
returns-clause-report c =
    of_net ByName c.args.bytes.now c.in_ok-net.net (λ t. ReportsNeeds c.args.budget t (output_of c.in_ok-report.field-0))
    c.in_ok-net.ensures.net (λ t is. c.in_ok-report.ensures t is)

pub returns-in_err-net-clause-fault : goal.returns-in_err-net-clause-fault
returns-in_err-net-clause-fault c =
    no_net number c.args.bytes.now c.from_residual.result _ c.from_residual.ensures.1 c.in_err-net.ensures.fault
