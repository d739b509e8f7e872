use Rattle.std.proofs.Common.{refl}
use Rattle.circuit_calls.specs.CallText.{call_more}
use Rattle.circuit_calls.proofs.call_parts.more.Goals as goal

pub returns : goal.returns
unfolding call_more
returns c = refl
