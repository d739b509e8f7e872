use Rattle.std.proofs.Common.{◌++◌, map}
use Rattle.std.proofs.lemmas.Result.{IfOk-equal}
use Rattle.verilog_tree.specs.Views.{item_of}
use Rattle.joined_module.specs.Module.{head_items}
use Rattle.joined_fields.specs.Views.{field_view, widths_view}
use Rattle.joined_tree.specs.Parts.{store_items}
use Rattle.joined_tree.proofs.Whole.{head_made}
use Rattle.joined_tree.proofs.module.add_head.Goals as goal

pub returns : goal.returns
returns c =
    IfOk-equal c.add_store_items.result (map item_of c.add_store_items.new.items.items)
    (map item_of c.add_row_items.new.items.items ++ store_items (widths_view c.args.w.now) c.args.ports c.args.product)
    (map item_of c.args.items.now.items ++ head_items (widths_view c.args.w.now) (map field_view c.args.fields.now) c.args.ports
    c.args.product) c.add_store_items.ensures
    (head_made (widths_view c.args.w.now) (map field_view c.args.fields.now) c.args.ports c.args.product _ _
    c.in_ok-add_row_items.ensures)
