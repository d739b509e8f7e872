use Rattle.std.proofs.Common.{rules}
use Rattle.circuit_made.proofs.Whole.{circuit_is}
use Rattle.circuit_made.proofs.print.push_circuit.Goals as goal

pub returns : goal.returns
returns c =
    circuit_is _ c.args.net.now _ _ _ c.args.text.now.items _ _ (search rules) (search rules) c.in_ok-push_head.ensures
    c.in_ok-push_around.ensures
