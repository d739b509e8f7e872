use Rattle.std.proofs.Common.{◌≡◌, ◌++◌, drop, length, map}
use Rattle.verilog_tree.specs.Views.{item_of}
use Rattle.verilog_run.specs.Scopes.{scope_of}
use Rattle.verilog_waves.specs.Shown.{shown_in}
use Rattle.verilog_waves.specs.Views.{shown_of}
use Rattle.verilog_waves.proofs.shown.shown_names.Given as goal

abbrev pub invariant-loop-item : goal.invariant-loop-item
invariant-loop-item l =
    map shown_of l.list.items ++ shown_in (scope_of l.scene).param (length l.list.items) (map item_of (drop l.item-index l.items))
    ≡ shown_in (scope_of l.scene).param 0 (map item_of l.items)
