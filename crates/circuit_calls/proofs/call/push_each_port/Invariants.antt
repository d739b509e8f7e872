use Rattle.std.proofs.Common.{◌≡◌, ◌++◌}
use Rattle.circuit_calls.specs.Lines.{each}
use Rattle.circuit_calls.specs.CallText.{call_port}
use Rattle.circuit_calls.proofs.call.push_each_port.Given as goal

abbrev pub invariant-loop-i : goal.invariant-loop-i
invariant-loop-i l = l.text.items ≡ l.fn.text.items ++ each call_port l.i
