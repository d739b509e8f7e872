use Rattle.std.proofs.Common.{◌≡◌, ◌++◌, ◌-◌, ◌/◌, replicate}
use Rattle.verilog_waves.proofs.words.push_code.Given as goal

abbrev pub invariant-loop-n : goal.invariant-loop-n
invariant-loop-n l =
    l.text.items ++ replicate (l.place / 94 - l.n) 126 ≡ l.fn.text.items ++ replicate (l.place / 94) 126
