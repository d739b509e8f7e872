use Rattle.std.proofs.Common.{ℕ, [], arith, subst, sym}
use Rattle.pcf_values.specs.Views.{named_of}
use Rattle.program_runs.proofs.Texts.{stops_by}
use Rattle.function_runs.specs.Functions.{FaultyTree, Takes}
use Rattle.function_runs.proofs.Judged.{functions_of_tree, any_function, any_faults_of_tree, any_untyped}
use Rattle.function_runs.proofs.compiling.compile_any_tree.Goals as goal

pub compile_program-requires-clause-size : goal.compile_program-requires-clause-size
compile_program-requires-clause-size c =
    let p = c.in_ok-program.program in
    let same = c.law_keeps_size.ensures [] (named_of c.args.tree.now) p.0 p.1 c.in_ok-program.ensures.typed in
    omega (arith, same.0, c.requires.size)

pub compile_program-requires-clause-height : goal.compile_program-requires-clause-height
compile_program-requires-clause-height c =
    let p = c.in_ok-program.program in
    let same = c.law_keeps_size.ensures [] (named_of c.args.tree.now) p.0 p.1 c.in_ok-program.ensures.typed in
    omega (arith, same.1, c.requires.height)

pub returns-clause-function : goal.returns-clause-function
returns-clause-function c =
    let made = c.compile_program.ensures in
    any_function (named_of c.args.tree.now) c.arguments_of-arguments.result c.compile_program.result
    (functions_of_tree c.arguments_of-arguments.result (named_of c.args.tree.now) c.in_ok-program.program c.compile_program.result
    c.in_ok-program.ensures.typed made.takes made.function)

pub returns-clause-fault : goal.returns-clause-fault
returns-clause-fault c =
    any_faults_of_tree c.arguments_of-arguments.result (named_of c.args.tree.now) c.in_ok-program.program c.compile_program.result
    (λ n t. c.arguments_of-arguments.ensures n (subst (λ A. Takes n A) (sym c.ty.ensures) t)) c.in_ok-program.ensures.typed
    c.compile_program.ensures.misfit

pub returns-in_err-program-clause-fault : goal.returns-in_err-program-clause-fault
returns-in_err-program-clause-fault c =
    let tree = named_of c.args.tree.now in
    stops_by c.from_residual.result _ (λ f. (n : ℕ) → FaultyTree n tree f) c.from_residual.ensures.1
    (any_untyped tree _ c.in_err-program.ensures.fault)
