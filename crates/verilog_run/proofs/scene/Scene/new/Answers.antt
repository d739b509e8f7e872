use Rattle.std.proofs.Common.{map}
use Rattle.verilog_tree.specs.Views.{item_of}
use Rattle.verilog_run.specs.Entries.{rows}
use Rattle.verilog_run.proofs.Noting.{scope_is}
use Rattle.verilog_run.proofs.scene.Scene.new.Goals as goal

pub returns : goal.returns
returns c =
    scope_is (map item_of c.args.items.now) (rows c.in_ok-widths.widths) (rows c.in_ok-words.words) (rows c.in_ok-params.params)
    c.in_ok-params.ensures c.in_ok-widths.ensures c.in_ok-words.ensures
