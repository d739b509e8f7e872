use Rattle.circuit_made.proofs.Parts.{circuit_is}
use Rattle.circuit_made.proofs.circuit.circuit_items.Goals as goal

pub returns : goal.returns
returns c =
    circuit_is c.law_circuits.ensures.circuits c.args.net.now c.args.ports.now c.args.cells c.args.forks
    (c.requires.cells, c.requires.few_cells) (c.requires.forks, c.requires.few_forks) _ _ c.in_ok-made.ensures.table c.in_ok-items.ensures
