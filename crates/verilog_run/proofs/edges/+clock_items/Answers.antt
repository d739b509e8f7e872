use Rattle.verilog_tree.specs.Views.{item_of}
use Rattle.verilog_run.specs.Held.{held}
use Rattle.verilog_run.specs.Scopes.{scope_of}
use Rattle.verilog_run.proofs.Stepping.{clock_more}
use Rattle.verilog_run.proofs.edges.+clock_items.Goals as goal

pub returns-in_ok-clock_items-in-len1-up : goal.returns-in_ok-clock_items-in-len1-up
returns-in_ok-clock_items-in-len1-up t c =
    clock_more item_of (scope_of c.args.scene.now) c.args.rest.now c.first-item.result (held c.args.read.now)
    c.args.writes.now.items c.clock_one.new.writes.items c.clock_items.new.writes.items
    c.in-len1-up.len_at_least c.first-item.is c.in_ok-clock_one-in-len1-up.ensures c.in_ok-clock_items-in-len1-up.ensures
