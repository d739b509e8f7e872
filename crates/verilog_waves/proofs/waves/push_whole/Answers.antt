use Rattle.std.proofs.Common.{map, suc}
use Rattle.verilog_tree.specs.Views.{item_of}
use Rattle.verilog_run.specs.Held.{held}
use Rattle.verilog_waves.specs.Views.{shown_of}
use Rattle.verilog_waves.proofs.Appending.{run_pushed}
use Rattle.verilog_waves.proofs.waves.push_whole.Goals as goal

pub returns-clause-text : goal.returns-clause-text
returns-clause-text c =
    run_pushed (map item_of c.args.items.now) (map shown_of c.args.names.now) (held c.begin.new.store) (suc c.in_ok-last.last)
    c.args.text.now.items c.push_start.new.text.items c.push_edges.new.text.items c.in_ok-begin.ensures c.in_ok-push_start.ensures
    c.in_ok-last.ensures.text
