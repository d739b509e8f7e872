use Rattle.std.proofs.Common.{◌++◌, map}
use Rattle.std.proofs.lemmas.Result.{IfOk-equal}
use Rattle.verilog_tree.specs.Views.{item_of}
use Rattle.joined_module.specs.Module.{store_registers}
use Rattle.joined_fields.specs.Views.{widths_view}
use Rattle.joined_fixed.specs.Parts.{store_rest}
use Rattle.joined_tree.proofs.Whole.{store_made}
use Rattle.joined_tree.proofs.registers.add_store.Goals as goal

pub returns : goal.returns
returns c =
    IfOk-equal c.add_store_rest.result (map item_of c.add_store_rest.new.items.items)
    (map item_of c.add_fork_registers.new.items.items ++ store_rest)
    (map item_of c.args.items.now.items ++ store_registers (widths_view c.args.w.now)) c.add_store_rest.ensures
    (store_made (widths_view c.args.w.now) _ _ _ _ _ c.in_ok-add_cells_said.ensures c.in_ok-add_cell_registers.ensures
    c.in_ok-add_forks_said.ensures c.in_ok-add_fork_registers.ensures)
