use Rattle.std.proofs.Common.{List, sym, subst}
use Rattle.net_build.specs.declared.node.Node.{Node}
use Rattle.net_build.specs.Kept.{Kept}
use Rattle.net_build.proofs.Renumbering.{kept_numbered}
use Rattle.net_build.proofs.net.Net.set_number.Goals as goal

pub invariant_of-self : goal.invariant_of-self
invariant_of-self c =
    let n = c.self.inside in
    subst (λ (ns : List Node). Kept n.wires.items ns n.above.items n.below.items) (sym c.set_number.ensures)
    (kept_numbered n.wires.items n.nodes.items n.above.items n.below.items c.args.node c.args.value c.self.invariant)
