use Rattle.std.proofs.Common.{refl, ap, ◌∙◌, map}
use Rattle.joined_rows.specs.Compound.{terms_of}
use Rattle.joined_numbers.specs.Within.{looks_within}
use Rattle.joined_table.specs.Views.{mark_view, term_view, spot_view, walker_view, site_view, sites_view}
use Rattle.joined_asked.proofs.Looks.{lands}
use Rattle.joined_asked.proofs.within.lands_within.Goals as goal

pub returns : goal.returns
returns c =
    let w = site_view c.site.result in
    let s = c.spot-spot.result.now in
    let first = ap (λ l. looks_within w (terms_of (map mark_view l)) (map term_view c.deref-2.result.now)) c.deref.ensures.value in
    let second = ap (λ l. looks_within w (terms_of (map mark_view s.work.items)) (map term_view l)) c.deref-2.ensures.value in
    c.looks_within.ensures ∙
    (first ∙ (second ∙ lands (sites_view c.args.sites.now) (walker_view c.args.x.now) (spot_view s) _ w c.spot-spot.ensures refl
    c.site.ensures))
