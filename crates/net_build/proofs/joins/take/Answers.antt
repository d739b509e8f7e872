use Rattle.std.proofs.Common.{arith}
use Rattle.net_build.proofs.Joining.{take_both, take_first, take_second}
use Rattle.net_build.proofs.joins.take.Goals as goal

pub returns-in_ok-joined : goal.returns-in_ok-joined
returns-in_ok-joined c =
    take_both c.args.parts.now c.variable.new.parts c.args.depth c.next.result _ _ _ _ c.last-u.result c.last-v.result c.pop_last.result
    c.pop_last-then-u-v.result c.in_ok-joined.joined
    c.last-u.ensures c.last-v.ensures c.pop_last.ensures c.pop_last-then-u-v.ensures c.if-u-v.true c.next.ensures c.in_ok-joined.ensures

pub returns-then-v-u : goal.returns-then-v-u
returns-then-v-u c = take_first c.args.parts.now c.args.depth _ _ _ c.last-u.result c.last-v.result c.pop_last-then-v-u.result
    c.last-u.ensures c.last-v.ensures c.pop_last-then-v-u.ensures c.if-v-u.true

pub returns-else-v-u : goal.returns-else-v-u
returns-else-v-u c = take_second c.args.parts.now c.args.depth _ _ _ c.last-u.result c.last-v.result c.pop_last-else-v-u.result
    c.last-u.ensures c.last-v.ensures c.pop_last-else-v-u.ensures (omega (arith, c.if-u-v.false, c.if-v-u.false))
