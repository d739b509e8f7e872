use Rattle.std.proofs.Common.{map, suc}
use Rattle.verilog_tree.specs.Names.{text_of}
use Rattle.verilog_tree.specs.Views.{item_of}
use Rattle.verilog_waves.specs.Views.{shown_of}
use Rattle.verilog_waves.proofs.Appending.{dump_pushed}
use Rattle.verilog_waves.proofs.waves.push_run.Goals as goal

pub returns-clause-text : goal.returns-clause-text
returns-clause-text c =
    dump_pushed (text_of c.args.name.now) (map item_of c.args.items.now) (map shown_of c.args.names.now) (suc c.in_ok-last.last)
    c.args.text.now.items c.push_head.new.text.items c.push_whole.new.text.items c.requires.names c.in_ok-push_head.ensures
    c.in_ok-last.ensures.text
