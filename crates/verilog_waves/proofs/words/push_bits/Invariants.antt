use Rattle.std.proofs.Common.{◌≡◌, ◌++◌}
use Rattle.verilog_waves.specs.Dump.{bits_text}
use Rattle.verilog_waves.proofs.words.push_bits.Given as goal

abbrev pub invariant-loop-left : goal.invariant-loop-left
invariant-loop-left l = l.text.items ++ bits_text l.left l.n ≡ l.fn.text.items ++ bits_text l.bits l.n

abbrev pub decreases-loop-left : goal.decreases-loop-left
decreases-loop-left l = l.left
