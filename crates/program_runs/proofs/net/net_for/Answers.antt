use Rattle.std.proofs.Common.{arith}
use Rattle.pcf_values.specs.Views.{named_of}
use Rattle.program_runs.specs.Programs.{wanted_by_run, FaultyProgram}
use Rattle.program_runs.proofs.Texts.{nets_of_text, faults_of_text, stops_unread, stops_by}
use Rattle.program_runs.proofs.net.net_for.Goals as goal

pub net_of_tree-net-requires-clause-size : goal.net_of_tree-net-requires-clause-size
net_of_tree-net-requires-clause-size c =
    let b = c.law_bounded.ensures c.args.bytes.now (named_of c.in_ok-tree.tree) c.in_ok-tree.ensures.found in
    omega (arith, b.1)

pub net_of_tree-net-requires-clause-height : goal.net_of_tree-net-requires-clause-height
net_of_tree-net-requires-clause-height c =
    let b = c.law_bounded.ensures c.args.bytes.now (named_of c.in_ok-tree.tree) c.in_ok-tree.ensures.found in
    omega (arith, b.2)

pub returns-clause-net : goal.returns-clause-net
returns-clause-net c =
    nets_of_text c.args.calling c.args.bytes.now (named_of c.in_ok-tree.tree) c.net_of_tree-net.result c.in_ok-tree.ensures.found
    c.net_of_tree-net.ensures.net

pub returns-clause-fault : goal.returns-clause-fault
returns-clause-fault c =
    faults_of_text (wanted_by_run c.args.calling) c.args.bytes.now (named_of c.in_ok-tree.tree) c.net_of_tree-net.result
    c.in_ok-tree.ensures.found c.net_of_tree-net.ensures.fault

pub returns-in_err-tree-clause-fault : goal.returns-in_err-tree-clause-fault
returns-in_err-tree-clause-fault c =
    let wanted = wanted_by_run c.args.calling in
    stops_by c.from_residual.result _ (FaultyProgram wanted c.args.bytes.now) c.from_residual.ensures.1
    (stops_unread wanted c.args.bytes.now _ c.in_err-tree.ensures.fault)
