use Rattle.std.proofs.Common.{arith}
use Rattle.net_marks.proofs.Walking.{comes}
use Rattle.net_marks.proofs.walk.next.Goals as goal

pub returns-clause-node : goal.returns-clause-node
returns-clause-node c =
    comes c.args.net.now.nodes c.args.walk.now.left c.node-node.result (omega (arith, c.if-walk-eq0.false)) c.requires c.node-node.ensures
