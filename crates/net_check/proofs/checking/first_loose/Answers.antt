use Rattle.std.proofs.Common.{None, subst}
use Rattle.net_check.specs.Counts.{IsLeastOdd}
use Rattle.net_check.proofs.Looking.{loose_past}
use Rattle.net_check.proofs.checking.first_loose.Goals as goal

pub returns : goal.returns
returns c =
    let t = c.in_ok-tally.tally in
    let odd = subst (λ xs. IsLeastOdd xs t.above_nodes.items None) c.deref.ensures.value
    (subst (λ ys. IsLeastOdd c.deref.result.now ys None) c.deref-2.ensures.value c.in-None.ensures) in
    loose_past c.args.net.now t.below_nodes.items t.above_nodes.items c.in_ok-tally.ensures.below c.in_ok-tally.ensures.above odd
    c.least_past.result c.least_past.ensures
