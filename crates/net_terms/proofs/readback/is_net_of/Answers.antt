use Rattle.std.proofs.Common.{ap, ◌∙◌, arith}
use Rattle.pcf_values.specs.Terms.{height}
use Rattle.net_terms.proofs.ReadingBack.{term_bounds, net_bounds, product_fits, product_is}
use Rattle.net_terms.proofs.readback.is_net_of.Goals as goal

pub height_of-own_height-requires : goal.height_of-own_height-requires
height_of-own_height-requires c =
    let (u, v) = term_bounds c.args.height c.args.net.now c.args.program.now.0 c.requires.only in
    omega (arith, u, c.requires.bound, ap height c.term.ensures.term)

pub overflow_mul-node_count : goal.overflow_mul-node_count
overflow_mul-node_count c =
    let (u, v) = term_bounds c.args.height c.args.net.now c.args.program.now.0 c.requires.only in
    let e = c.height_of-own_height.ensures ∙ ap height c.term.ensures.term in
    record { fits = product_fits c.node_count.type_inv (omega (arith, u, c.requires.bound, e)) }

pub build-requires-clause-wires : goal.build-requires-clause-wires
build-requires-clause-wires c =
    let (p, q) = net_bounds c.law_net_size.ensures c.args.height c.args.net.now c.args.program.now.0 c.requires.only in
    omega (
      arith,
      p,
      c.if-node_count-own_height-ge4294967296.false,
      product_is _ _ _ _ c.node_count.ensures (c.height_of-own_height.ensures ∙ ap height c.term.ensures.term),
    )

pub build-requires-clause-nodes : goal.build-requires-clause-nodes
build-requires-clause-nodes c =
    let (p, q) = net_bounds c.law_net_size.ensures c.args.height c.args.net.now c.args.program.now.0 c.requires.only in
    omega (
      arith,
      q,
      c.if-node_count-own_height-ge4294967296.false,
      product_is _ _ _ _ c.node_count.ensures (c.height_of-own_height.ensures ∙ ap height c.term.ensures.term),
    )
