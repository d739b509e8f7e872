use Rattle.std.proofs.Common.{◌≡◌, ◌++◌, drop, map}
use Rattle.verilog_waves.specs.Dump.{name_lines}
use Rattle.verilog_waves.specs.Views.{shown_of}
use Rattle.verilog_waves.proofs.shown.push_name_lines.Given as goal

abbrev pub invariant-loop-v : goal.invariant-loop-v
invariant-loop-v l =
    l.text.items ++ name_lines (map shown_of (drop l.v-index l.names)) ≡ l.fn.text.items ++ name_lines (map shown_of l.names)
