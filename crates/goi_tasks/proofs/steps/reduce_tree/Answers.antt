use Rattle.pcf_values.specs.Views.{named_of}
use Rattle.program_runs.specs.Programs.{number, FaultyTree}
use Rattle.program_runs.proofs.Texts.{stops_untyped}
use Rattle.goi_tasks.specs.Programs.{IsProgramFault}
use Rattle.goi_tasks.proofs.Reduced.{reduces, no_nat}
use Rattle.goi_tasks.proofs.Replayed.{stops_by}
use Rattle.goi_tasks.proofs.Texts.{stops_program}
use Rattle.goi_tasks.proofs.steps.reduce_tree.Goals as goal

pub returns-in_err-program-clause-fault : goal.returns-in_err-program-clause-fault
returns-in_err-program-clause-fault c =
    let tree = named_of c.args.tree.now in
    stops_by c.from_residual.result _ (IsProgramFault (FaultyTree number tree)) c.from_residual.ensures.1
    (stops_program (FaultyTree number tree) _ (stops_untyped number tree _ c.in_err-program.ensures.fault))

pub returns-then-not-is_number-clause-fault : goal.returns-then-not-is_number-clause-fault
returns-then-not-is_number-clause-fault c =
    let p = c.in_ok-program.program in
    no_nat (named_of c.args.tree.now) p.0 p.1 c.in_ok-program.ensures.typed (λ e. let h = c.is_number-is_number.ensures.1 e in cc)

pub returns-clause-report : goal.returns-clause-report
returns-clause-report c =
    let p = c.in_ok-program.program in
    reduces c.law_correct.ensures.sound c.law_told_is_meant.ensures c.law_none_is_limit.ensures c.law_adequacy.ensures.length c.args.budget
    c.args.window (named_of c.args.tree.now) p.0 p.1 _ c.in_ok-program.ensures.typed c.in_ok-program.ensures.fit
    (c.is_number-is_number.ensures.0 c.if-not-is_number.false) c.in_ok-reduction_of.ensures
