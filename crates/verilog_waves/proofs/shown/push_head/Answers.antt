use Rattle.std.proofs.Common.{codes, map}
use Rattle.verilog_tree.specs.Names.{text_of}
use Rattle.verilog_waves.specs.Dump.{name_lines}
use Rattle.verilog_waves.specs.Views.{shown_of}
use Rattle.verilog_waves.proofs.Appending.{appended_five}
use Rattle.verilog_waves.proofs.shown.push_head.Goals as goal

pub returns : goal.returns
returns c =
    appended_five c.args.text.now.items c.extend_from_slice.new.self.items c.push_name.new.text.items c.extend_from_slice-2.new.self.items
    c.push_name_lines.new.text.items c.extend_from_slice-3.new.self.items (codes "$timescale 1 ns $end\n$scope module ")
    (codes (text_of c.args.name.now)) (codes " $end\n") (name_lines (map shown_of c.args.names.now))
    (codes "$upscope $end\n$enddefinitions $end\n") c.in_ok-extend_from_slice.ensures.items c.in_ok-push_name.ensures
    c.in_ok-extend_from_slice-2.ensures.items c.in_ok-push_name_lines.ensures c.in_ok-extend_from_slice-3.ensures.items
