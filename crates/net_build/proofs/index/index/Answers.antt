use Rattle.std.proofs.Common.{◌≡◌, suc, ◌-◌, drop, subst, arith}
use Rattle.net_build.specs.Index.{Indexes, wires_with}
use Rattle.net_build.proofs.Indexing.{indexes_none, indexes_next}
use Rattle.net_build.proofs.index.index.Goals as goal

-- src/index.rt:30:5
pub loop-n-init : goal.loop-n-init
loop-n-init c = (
  omega arith,
  indexes_none (wires_with c.args.face) c.args.wires c.args.nodes.now c.in_ok-least.least.items c.in_ok-least.ensures,
)

-- src/index.rt:30:5
pub loop-n-preserved : goal.loop-n-preserved
loop-n-preserved c =
    let e : c.loop-n.n ≡ suc (c.loop-n.n - 1) = omega arith in
    let h = subst (λ k. Indexes (wires_with c.args.face) c.args.wires k (drop k c.args.nodes.now) c.loop-n.least.items) e
    c.loop-n.invariant.1 in (
      omega arith,
      indexes_next (wires_with c.args.face) c.args.wires (c.loop-n.n - 1) _ c.args.nodes.now c.loop-n.least.items
          c.mark_each.new.least.items (omega arith) h c.mark_each.ensures,
    )
