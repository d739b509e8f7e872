use Rattle.std.proofs.Common.{refl}
use Rattle.circuit_calls.specs.CallText.{call_last}
use Rattle.circuit_calls.proofs.call_parts.last.Goals as goal

pub returns : goal.returns
unfolding call_last
returns c = refl
