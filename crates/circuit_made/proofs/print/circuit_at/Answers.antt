use Rattle.circuit_made.proofs.Whole.{prints_is}
use Rattle.circuit_made.proofs.print.circuit_at.Goals as goal

pub returns : goal.returns
returns c = prints_is _ _ _ _ _ _ _ c.in_ok-items.ensures c.in_ok-text.ensures
