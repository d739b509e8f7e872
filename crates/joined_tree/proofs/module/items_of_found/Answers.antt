use Rattle.std.proofs.Common.{◌≡◌, ◌∙◌, map, ap}
use Rattle.std.proofs.lemmas.Result.{IfOk-weaker}
use Rattle.verilog_tree.specs.Views.{item_of}
use Rattle.joined_module.specs.Fields.{row_fields}
use Rattle.joined_module.specs.Module.{widths, has_product, module_items}
use Rattle.joined_data.specs.Views.{row_view}
use Rattle.joined_fields.specs.Views.{field_view, widths_view, room_of}
use Rattle.joined_tree.proofs.Whole.{module_made}
use Rattle.joined_tree.proofs.module.items_of_found.Goals as goal

pub returns : goal.returns
returns c =
    IfOk-weaker c.kept_items.result (λ r. map item_of r.now ≡ map item_of c.add_module.new.items.items)
    (λ r. map item_of r.now ≡ module_items (widths (map row_view c.args.rows.now) (room_of c.args.cells c.args.forks)) c.args.start
    (map row_view c.args.rows.now) (row_fields (map row_view c.args.rows.now)) c.args.ports (has_product (map row_view c.args.rows.now)))
    (λ r e. e ∙ module_made (map row_view c.args.rows.now) (room_of c.args.cells c.args.forks) c.args.start c.args.ports
    (widths_view c.table_widths-w.result) (map field_view c.in_ok-fields.fields.now) c.has_product-product.result _ _
    (ap (λ is. map item_of is) c.new-items.ensures.items) c.in_ok-add_module.ensures c.table_widths-w.ensures.all c.in_ok-fields.ensures
    c.has_product-product.ensures) c.kept_items.ensures
