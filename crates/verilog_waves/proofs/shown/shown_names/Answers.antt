use Rattle.std.proofs.Common.{map, arith}
use Rattle.verilog_tree.specs.Views.{item_of}
use Rattle.verilog_run.specs.Scopes.{scope_of}
use Rattle.verilog_waves.specs.Views.{shown_of}
use Rattle.verilog_waves.proofs.Listing.{shown_more}
use Rattle.verilog_waves.proofs.shown.shown_names.Goals as goal

pub loop-item-preserved : goal.loop-item-preserved
loop-item-preserved c =
    shown_more item_of c.args.items.now c.loop-item.item-index c.item-item.result (map shown_of c.loop-item.list.items)
    (map shown_of c.add_item.new.list.items) (scope_of c.args.scene.now).param _ _ _ (omega arith) c.item-item.is
    c.in_ok-add_item.ensures c.loop-item.invariant
