use Rattle.std.proofs.Common.{codes, map}
use Rattle.verilog_tree.proofs.Texts.{appended}
use Rattle.verilog_run.specs.Held.{held}
use Rattle.verilog_waves.specs.Dump.{clock_at, value_lines}
use Rattle.verilog_waves.specs.Views.{shown_of}
use Rattle.verilog_waves.proofs.changes.push_start.Goals as goal

pub returns : goal.returns
returns c =
    appended c.args.text.now.items c.extend_from_slice.new.self.items c.push_values.new.text.items c.extend_from_slice-2.new.self.items
    (codes "#0\n$dumpvars\n") (value_lines (map shown_of c.args.names.now) (clock_at 0 (held c.args.store.now))) (codes "$end\n")
    c.in_ok-extend_from_slice.ensures.items c.in_ok-push_values.ensures c.in_ok-extend_from_slice-2.ensures.items
