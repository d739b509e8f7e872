use Rattle.pcf_values.specs.Views.{named_of}
use Rattle.program_runs.specs.Programs.{any_type, FaultyTree}
use Rattle.program_runs.proofs.Texts.{stops_untyped}
use Rattle.goi_tasks.specs.Programs.{IsProgramFault}
use Rattle.goi_tasks.proofs.Replayed.{stops_by}
use Rattle.goi_tasks.proofs.Texts.{stops_program}
use Rattle.goi_tasks.proofs.program.check_tree.Goals as goal

pub returns-in_err-program-clause-fault : goal.returns-in_err-program-clause-fault
returns-in_err-program-clause-fault c =
    let tree = named_of c.args.tree.now in
    stops_by c.from_residual.result _ (IsProgramFault (FaultyTree any_type tree)) c.from_residual.ensures.1
    (stops_program (FaultyTree any_type tree) _ (stops_untyped any_type tree _ c.in_err-program.ensures.fault))
