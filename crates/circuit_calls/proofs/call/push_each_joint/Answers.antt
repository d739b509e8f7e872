use Rattle.circuit_calls.specs.CallText.{call_joint}
use Rattle.circuit_calls.proofs.Each.{next_part}
use Rattle.circuit_calls.proofs.call.push_each_joint.Goals as goal

pub loop-i-preserved : goal.loop-i-preserved
loop-i-preserved c = next_part call_joint _ _ _ c.loop-i.i c.loop-i.invariant c.in_ok-push_joint.ensures
