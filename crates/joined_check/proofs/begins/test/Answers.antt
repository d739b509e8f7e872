use Rattle.std.proofs.Common.{◌≡◌, sym, ap, ◌∙◌, subst}
use Rattle.std.specs.Prelude.{IfOk}
use Rattle.std.specs.Option.{option_map}
use Rattle.net_rows.specs.Rows.{row_of}
use Rattle.joined_table.specs.Views.{walker_view}
use Rattle.joined_rows.specs.Open.{spot_of}
use Rattle.joined_check.proofs.Ported.{test_here, test_none}
use Rattle.joined_check.proofs.begins.test.Goals as goal

pub returns-in-Some : goal.returns-in-Some
returns-in-Some c =
    let e = c.row_of.ensures ∙ ap (λ s. row_of c.args.net.now s.channel) c.spot.ensures in
    let h = test_here c.args.net.now c.args.ports.now (spot_of (walker_view c.args.x.now)).channel _ c.in-Some.found c.args.is_zero
    (walker_view c.args.x.now) e c.in-Some.is in
    subst (λ t. IfOk c.test_by.result (λ r. option_map walker_view r ≡ t)) (sym h) c.test_by.ensures

pub returns-in-None : goal.returns-in-None
returns-in-None c =
    let e = c.row_of.ensures ∙ ap (λ s. row_of c.args.net.now s.channel) c.spot.ensures in
    sym (test_none c.args.net.now c.args.ports.now (spot_of (walker_view c.args.x.now)).channel _ c.args.is_zero (walker_view c.args.x.now)
    e c.in-None.is)
