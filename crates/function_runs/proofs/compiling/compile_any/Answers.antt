use Rattle.std.proofs.Common.{arith}
use Rattle.pcf_values.specs.Views.{named_of}
use Rattle.program_runs.proofs.Texts.{stops_by}
use Rattle.function_runs.specs.Functions.{FaultyAny}
use Rattle.function_runs.proofs.Judged.{any_faults_of_text, any_unread}
use Rattle.function_runs.proofs.compiling.compile_any.Goals as goal

pub compile_any_tree-function-requires-clause-size : goal.compile_any_tree-function-requires-clause-size
compile_any_tree-function-requires-clause-size c =
    let b = c.law_bounded.ensures c.args.bytes.now (named_of c.in_ok-tree.tree) c.in_ok-tree.ensures.found in
    omega (arith, b.1)

pub compile_any_tree-function-requires-clause-height : goal.compile_any_tree-function-requires-clause-height
compile_any_tree-function-requires-clause-height c =
    let b = c.law_bounded.ensures c.args.bytes.now (named_of c.in_ok-tree.tree) c.in_ok-tree.ensures.found in
    omega (arith, b.2)

pub returns-clause-fault : goal.returns-clause-fault
returns-clause-fault c =
    any_faults_of_text c.args.bytes.now (named_of c.in_ok-tree.tree) c.compile_any_tree-function.result c.in_ok-tree.ensures.found
    c.compile_any_tree-function.ensures.fault

pub returns-in_err-tree-clause-fault : goal.returns-in_err-tree-clause-fault
returns-in_err-tree-clause-fault c =
    stops_by c.from_residual.result _ (FaultyAny c.args.bytes.now) c.from_residual.ensures.1
    (any_unread c.args.bytes.now _ c.in_err-tree.ensures.fault)
