use Rattle.std.proofs.Common.{◌≡◌, ◌++◌, drop, map}
use Rattle.verilog_run.specs.Held.{held}
use Rattle.verilog_waves.specs.Dump.{change_lines, change_text, clock_at}
use Rattle.verilog_waves.specs.Views.{shown_of}
use Rattle.verilog_waves.proofs.changes.push_changes.Given as goal

abbrev pub invariant-loop-v : goal.invariant-loop-v
invariant-loop-v l =
    let was = clock_at l.old_clock (held l.old) in
    let is = clock_at l.new_clock (held l.new) in
    l.text.items ++ change_lines (map shown_of (drop l.v-index l.names)) was is
    ≡ l.fn.text.items ++ change_text (map shown_of l.names) l.time was is
