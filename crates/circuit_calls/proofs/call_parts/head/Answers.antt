use Rattle.std.proofs.Common.{refl}
use Rattle.circuit_calls.specs.CallText.{call_head}
use Rattle.circuit_calls.proofs.call_parts.head.Goals as goal

pub returns : goal.returns
unfolding call_head
returns c = refl
