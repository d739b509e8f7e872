use Rattle.std.proofs.Common.{◌≡◌, ◌++◌, drop, map}
use Rattle.verilog_run.specs.Held.{held}
use Rattle.verilog_waves.specs.Dump.{value_lines, clock_at}
use Rattle.verilog_waves.specs.Views.{shown_of}
use Rattle.verilog_waves.proofs.changes.push_values.Given as goal

abbrev pub invariant-loop-v : goal.invariant-loop-v
invariant-loop-v l =
    l.text.items ++ value_lines (map shown_of (drop l.v-index l.names)) (clock_at l.clock (held l.store))
    ≡ l.fn.text.items ++ value_lines (map shown_of l.names) (clock_at l.clock (held l.store))
