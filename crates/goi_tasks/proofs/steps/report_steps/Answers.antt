use Rattle.std.proofs.Common.{arith}
use Rattle.pcf_values.specs.Views.{named_of}
use Rattle.program_runs.specs.Programs.{number, FaultyProgram}
use Rattle.program_runs.proofs.Texts.{stops_unread}
use Rattle.goi_tasks.specs.Programs.{FaultyText}
use Rattle.goi_tasks.proofs.Reduced.{reduces_text}
use Rattle.goi_tasks.proofs.Replayed.{stops_by}
use Rattle.goi_tasks.proofs.Texts.{faults_of_text, stops_program}
use Rattle.goi_tasks.proofs.steps.report_steps.Goals as goal

pub reduce_tree-report-requires : goal.reduce_tree-report-requires
reduce_tree-report-requires c =
    let b = c.law_bounded.ensures c.args.bytes.now (named_of c.in_ok-tree.tree) c.in_ok-tree.ensures.found in
    omega (arith, b.2)

pub returns-clause-report : goal.returns-clause-report
returns-clause-report c =
    reduces_text c.args.budget c.args.window c.args.bytes.now (named_of c.in_ok-tree.tree) c.reduce_tree-report.result
    c.in_ok-tree.ensures.found c.reduce_tree-report.ensures.report

pub returns-clause-fault : goal.returns-clause-fault
returns-clause-fault c =
    faults_of_text number c.args.bytes.now (named_of c.in_ok-tree.tree) c.reduce_tree-report.result c.in_ok-tree.ensures.found
    c.reduce_tree-report.ensures.fault

pub returns-in_err-tree-clause-fault : goal.returns-in_err-tree-clause-fault
returns-in_err-tree-clause-fault c =
    let bytes = c.args.bytes.now in
    stops_by c.from_residual.result _ (FaultyText number bytes) c.from_residual.ensures.1
    (stops_program (FaultyProgram number bytes) _ (stops_unread number bytes _ c.in_err-tree.ensures.fault))
