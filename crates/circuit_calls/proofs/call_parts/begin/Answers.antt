use Rattle.std.proofs.Common.{refl}
use Rattle.circuit_calls.specs.CallText.{call_begin}
use Rattle.circuit_calls.proofs.call_parts.begin.Goals as goal

pub returns : goal.returns
unfolding call_begin
returns c = refl
