use Rattle.std.proofs.Common.{◌≡◌, sym, ap, ◌∙◌, subst, map}
use Rattle.std.specs.Prelude.{IfOk}
use Rattle.std.specs.Option.{option_map}
use Rattle.circuit_rows.specs.Views.{channel_of}
use Rattle.joined_table.specs.Views.{term_view, named_view}
use Rattle.joined_check.proofs.Ported.{join_here, join_none}
use Rattle.joined_check.proofs.ends.found_join.Goals as goal

pub returns-in-Some : goal.returns-in-Some
returns-in-Some c =
    let h = join_here c.args.net.now c.args.ports.now (channel_of c.args.channel) _ c.in-Some.found (map term_view c.args.boxes.now)
    c.row_of.ensures c.in-Some.is in
    subst (λ t. IfOk c.after_join.result (λ r. option_map named_view r ≡ t)) (sym h) c.after_join.ensures

pub returns-in-None : goal.returns-in-None
returns-in-None c =
    sym (join_none c.args.net.now c.args.ports.now (channel_of c.args.channel) _ (map term_view c.args.boxes.now) c.row_of.ensures
    c.in-None.is)
