use Rattle.std.proofs.Common.{arith}
use Rattle.net_build.proofs.Comparing.{places_differ}
use Rattle.net_build.proofs.lists.same_wires.Goals as goal

pub returns-then-not-same : goal.returns-then-not-same
returns-then-not-same c =
    let differ = places_differ c.args.left.now c.args.right.now c.loop-i.i c.index-left-i.result c.index-right-i.result (omega arith)
    (omega arith) c.index-left-i.is c.index-right-i.is (λ q. let t = c.same.ensures.1 q in let f = c.if-not-same.true in cc) in
    (λ h. cc, λ e. absurd (differ e))
