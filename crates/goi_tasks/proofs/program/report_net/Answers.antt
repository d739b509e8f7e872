use Rattle.program_runs.specs.Programs.{number}
use Rattle.goi_tasks.proofs.Texts.{no_net}
use Rattle.goi_tasks.proofs.program.report_net.Goals as goal

pub returns-in_err-net-clause-fault : goal.returns-in_err-net-clause-fault
returns-in_err-net-clause-fault c =
    no_net number c.args.bytes.now c.from_residual.result _ c.from_residual.ensures.1 c.in_err-net.ensures.fault
