use Rattle.std.proofs.Common.{[], arith}
use Rattle.pcf_values.specs.Views.{named_of}
use Rattle.program_runs.proofs.Texts.{stops_by}
use Rattle.function_runs.specs.Functions.{FaultyTree}
use Rattle.function_runs.proofs.Judged.{functions_of_tree, faults_of_tree, stops_untyped}
use Rattle.function_runs.proofs.compiling.compile_tree.Goals as goal

pub compile_program-requires-clause-size : goal.compile_program-requires-clause-size
compile_program-requires-clause-size c =
    let p = c.in_ok-program.program in
    let same = c.law_keeps_size.ensures [] (named_of c.args.tree.now) p.0 p.1 c.in_ok-program.ensures.typed in
    omega (arith, same.0, c.requires.size)

pub compile_program-requires-clause-height : goal.compile_program-requires-clause-height
compile_program-requires-clause-height c =
    let p = c.in_ok-program.program in
    let same = c.law_keeps_size.ensures [] (named_of c.args.tree.now) p.0 p.1 c.in_ok-program.ensures.typed in
    omega (arith, same.1, c.requires.height)

pub returns-clause-function : goal.returns-clause-function
returns-clause-function c =
    let made = c.compile_program.ensures in
    functions_of_tree c.args.arguments (named_of c.args.tree.now) c.in_ok-program.program c.compile_program.result
    c.in_ok-program.ensures.typed made.takes made.function

pub returns-clause-fault : goal.returns-clause-fault
returns-clause-fault c =
    faults_of_tree c.args.arguments (named_of c.args.tree.now) c.in_ok-program.program c.compile_program.result
    c.in_ok-program.ensures.typed c.compile_program.ensures.misfit

pub returns-in_err-program-clause-fault : goal.returns-in_err-program-clause-fault
returns-in_err-program-clause-fault c =
    let tree = named_of c.args.tree.now in
    stops_by c.from_residual.result _ (FaultyTree c.args.arguments tree) c.from_residual.ensures.1
    (stops_untyped c.args.arguments tree _ c.in_err-program.ensures.fault)
