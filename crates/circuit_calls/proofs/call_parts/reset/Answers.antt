use Rattle.std.proofs.Common.{refl}
use Rattle.circuit_calls.specs.CallText.{call_reset}
use Rattle.circuit_calls.proofs.call_parts.reset.Goals as goal

pub returns : goal.returns
unfolding call_reset
returns c = refl
