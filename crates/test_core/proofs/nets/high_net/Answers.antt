use Rattle.std.proofs.Common.{◌≡◌, ap, arith}
use Rattle.pcf_values.specs.Views.{term_of}
use Rattle.test_core.proofs.Heights.{high_fits}
use Rattle.test_core.proofs.nets.high_net.Goals as goal

pub build-requires-clause-wires : goal.build-requires-clause-wires
build-requires-clause-wires c =
    let e : c.of-program.result.0 ≡ term_of c.in_ok-term.term = ap (λ p. p.0) c.of-program.ensures in
    rw e (high_fits c.law_net_size.ensures (term_of c.in_ok-term.term) (omega (arith, c.in_ok-term.ensures.small))
    (omega (arith, c.in_ok-term.ensures.low))).0

pub build-requires-clause-nodes : goal.build-requires-clause-nodes
build-requires-clause-nodes c =
    let e : c.of-program.result.0 ≡ term_of c.in_ok-term.term = ap (λ p. p.0) c.of-program.ensures in
    rw e (high_fits c.law_net_size.ensures (term_of c.in_ok-term.term) (omega (arith, c.in_ok-term.ensures.small))
    (omega (arith, c.in_ok-term.ensures.low))).1
