use Rattle.std.proofs.Common.{refl}
use Rattle.circuit_calls.specs.CallText.{call_notes}
use Rattle.circuit_calls.proofs.call_parts.notes.Goals as goal

pub returns : goal.returns
unfolding call_notes
returns c = refl
