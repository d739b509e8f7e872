use Rattle.move_rules.proofs.Facing.{node_found}
use Rattle.move_rules.proofs.step.faced_node.Goals as goal

pub returns-in-Some : goal.returns-in-Some
returns-in-Some c = node_found c.args.net.now _ c.in-Some.at c.number.result _ c.number.ensures c.in-Some.is c.node_at.ensures
