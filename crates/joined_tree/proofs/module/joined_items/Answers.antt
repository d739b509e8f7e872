use Rattle.std.proofs.Common.{◌≡◌, ◌∙◌, map, ap}
use Rattle.std.proofs.lemmas.Result.{IfOk-weaker}
use Rattle.verilog_tree.specs.Views.{item_of}
use Rattle.joined_module.specs.Module.{module_of, joined_module}
use Rattle.joined_data.specs.Views.{row_view}
use Rattle.joined_fields.specs.Views.{room_of, table_of}
use Rattle.joined_tree.proofs.module.joined_items.Goals as goal

pub returns : goal.returns
returns c =
    IfOk-weaker c.items_of_found.result (λ r. map item_of r.now ≡ module_of (table_of (map row_view c.args.rows.now) c.args.start)
    (room_of c.args.cells c.args.forks) c.args.ports (map row_view c.in_ok-found.found.now))
    (λ r. map item_of r.now
    ≡ joined_module (table_of (map row_view c.args.rows.now) c.args.start) (room_of c.args.cells c.args.forks) c.args.ports)
    (λ r e. e ∙ ap (λ rows. module_of (table_of (map row_view c.args.rows.now) c.args.start) (room_of c.args.cells c.args.forks)
    c.args.ports rows) c.in_ok-found.ensures) c.items_of_found.ensures
