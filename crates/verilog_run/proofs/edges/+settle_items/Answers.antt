use Rattle.verilog_tree.specs.Views.{item_of}
use Rattle.verilog_run.specs.Held.{held}
use Rattle.verilog_run.specs.Scopes.{scope_of}
use Rattle.verilog_run.proofs.Stepping.{settle_more}
use Rattle.verilog_run.proofs.edges.+settle_items.Goals as goal

pub returns-in_ok-settle_items-in-len1-up : goal.returns-in_ok-settle_items-in-len1-up
returns-in_ok-settle_items-in-len1-up t c =
    settle_more item_of (scope_of c.args.scene.now) c.args.rest.now c.first-item.result (held c.args.store.now) _ _
    c.in-len1-up.len_at_least c.first-item.is c.in_ok-settle_one-in-len1-up.ensures c.in_ok-settle_items-in-len1-up.ensures
