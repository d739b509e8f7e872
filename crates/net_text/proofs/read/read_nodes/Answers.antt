use Rattle.std.proofs.Common.{◌≡◌, ◌+◌, length, sym, ap, ◌∙◌, arith}
use Rattle.std.proofs.lemmas.Bool.{iff_false}
use Rattle.net_text.specs.FirstFault.{node_at}
use Rattle.net_text.proofs.TextsRead.{nodes_go, nodes_late}
use Rattle.net_text.proofs.read.read_nodes.Goals as goal

pub returns-then-more-gt0-clause-fault : goal.returns-then-more-gt0-clause-fault
returns-then-more-gt0-clause-fault c =
    nodes_late (length c.loop-rest.nodes.items) c.loop-rest.n (c.loop-rest.n + 1) c.loop-rest.nodes.items c.loop-rest.rest.now
    c.cut_line.result.0.now c.cut_line.result.1.now _ c.cut_line.ensures.first (c.is_end.ensures.0 c.if-is_end.true)
    c.if-more-gt0.true (omega arith) c.loop-rest.invariant.nodes

pub loop-rest-preserved : goal.loop-rest-preserved
loop-rest-preserved c =
    let p = c.in_ok-push-in-Some.ensures in
    let n : c.len.result ≡ length c.loop-rest.nodes.items = omega (arith, c.len.ensures) in
    record {
      few = omega (arith, p.len, c.cut_line.ensures.shorter, c.loop-rest.invariant.few);
      line = omega (arith, c.cut_line.ensures.shorter, c.loop-rest.invariant.line);
      nodes = nodes_go (length c.loop-rest.nodes.items) c.loop-rest.n (length c.push.new.self.items) (c.loop-rest.n + 1)
          c.loop-rest.nodes.items c.push.new.self.items c.in-Some.node c.loop-rest.rest.now c.cut_line.result.0.now c.cut_line.result.1.now
          _
          c.cut_line.ensures.first (iff_false c.is_end.ensures c.if-is_end.false)
          (ap (λ k. node_at k c.cut_line.result.0.now) (sym n) ∙ sym c.in_ok-node.ensures ∙ c.in-Some.is) (omega (arith, p.len))
          (omega arith) p.items c.loop-rest.invariant.nodes;
    }
