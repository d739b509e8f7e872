use Rattle.std.proofs.Common.{◌≡◌}
use Rattle.verilog_waves.specs.Dump.{digits_text}
use Rattle.verilog_waves.proofs.words.highest_one.Given as goal

abbrev pub invariant-loop-left : goal.invariant-loop-left
invariant-loop-left l = digits_text l.left l.n ≡ digits_text l.bits l.n

abbrev pub decreases-loop-left : goal.decreases-loop-left
decreases-loop-left l = l.left
