use Rattle.pcf_values.specs.Views.{named_of}
use Rattle.program_runs.specs.Programs.{wanted_by_run, FaultyTree}
use Rattle.program_runs.proofs.Texts.{stops_untyped, stops_by, unfit}
use Rattle.program_runs.proofs.net.number_of.Goals as goal

pub returns-in_err-program-clause-fault : goal.returns-in_err-program-clause-fault
returns-in_err-program-clause-fault c =
    let wanted = wanted_by_run c.args.calling in
    let tree = named_of c.args.tree.now in
    stops_by c.from_residual.result _ (FaultyTree wanted tree) c.from_residual.ensures.1
    (stops_untyped wanted tree _ c.in_err-program.ensures.fault)

pub returns-then-not-is_ground-clause-fault : goal.returns-then-not-is_ground-clause-fault
returns-then-not-is_ground-clause-fault c =
    let p = c.in_ok-program.program in
    unfit c.args.calling (named_of c.args.tree.now) p.0 p.1 c.in_ok-program.ensures.typed
    (λ e. let h = c.is_ground.ensures.ground.1 e in cc)
