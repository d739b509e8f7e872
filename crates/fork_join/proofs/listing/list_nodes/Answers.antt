use Rattle.std.proofs.Common.{◌++◌, map, sym, ap, ◌∙◌, subst, append-nil}
use Rattle.fork_join.specs.Nested.{flat}
use Rattle.fork_join.specs.Listed.{open_of}
use Rattle.fork_join.proofs.Rising.{AllOrdered, listed}
use Rattle.fork_join.proofs.listing.list_nodes.Goals as goal

pub returns : goal.returns
returns c =
    let (list_is, orders) = c.loop-node.invariant in
    let left = c.in-None.ensures.steps.0 in
    let list = map open_of c.loop-node.list.items in
    let ordered = orders (subst AllOrdered (sym left) tt) in
    sym (append-nil list) ∙ ap (λ r. list ++ flat r) (sym left) ∙ list_is
    ∙ sym (listed c.args.nodes.now.entries c.iter-node-items.ensures.ordered ordered)
