use Rattle.program_runs.specs.Programs.{number}
use Rattle.goi_tasks.specs.Seen.{output_of}
use Rattle.goi_tasks.proofs.CircuitRuns.{reports_circuit}
use Rattle.goi_tasks.proofs.Texts.{no_net}
use Rattle.goi_tasks.proofs.circuit_run.report_circuit_run.Goals as goal

pub returns-clause-report : goal.returns-clause-report
returns-clause-report c =
    reports_circuit c.law_program_runs.ensures c.args.bytes.now c.in_ok-net.net c.args.run.cells c.args.run.forks c.args.run.budget
    c.args.run.waves c.requires.cells c.requires.forks c.in_ok-net.ensures.net (output_of c.in_ok-report.field-0) c.in_ok-report.ensures

pub returns-in_err-net-clause-fault : goal.returns-in_err-net-clause-fault
returns-in_err-net-clause-fault c =
    no_net number c.args.bytes.now c.from_residual.result _ c.from_residual.ensures.1 c.in_err-net.ensures.fault
