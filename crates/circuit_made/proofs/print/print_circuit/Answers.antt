use Rattle.std.proofs.Common.{◌∙◌}
use Rattle.circuit_made.proofs.Whole.{prints_at}
use Rattle.circuit_made.proofs.print.print_circuit.Goals as goal

pub returns : goal.returns
returns c = prints_at _ _ _ _ _ _ _ (c.deref.ensures.value ∙ c.in_ok-list.ensures.places) c.in_ok-text.ensures
