use Rattle.move_rules.proofs.Facing.{found_is, found_none}
use Rattle.circuit_rows.proofs.found.seen.Goals as goal

pub returns-in-Some-node : goal.returns-in-Some-node
returns-in-Some-node c =
    found_is c.args.net.now _ c.in-Some.at c.in-Some-node.node c.number.result c.node.result c.number.ensures c.in-Some.is c.node.ensures
    c.in-Some-node.is

pub returns-in-None-node : goal.returns-in-None-node
returns-in-None-node c =
    found_none c.args.net.now _ c.in-Some.at c.number.result c.node.result c.number.ensures c.in-Some.is c.node.ensures c.in-None-node.is
