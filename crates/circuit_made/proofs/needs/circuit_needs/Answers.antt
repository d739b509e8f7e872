use Rattle.circuit_made.proofs.Parts.{counts_are}
use Rattle.circuit_made.proofs.needs.circuit_needs.Goals as goal

pub returns : goal.returns
returns c =
    counts_are c.law_circuits.ensures.circuits c.law_circuits.ensures.counts c.args.net.now c.args.ports.now c.args.numbers.now
    c.args.budget _ _ c.in_ok-made.ensures.table c.in_ok-needs.ensures
