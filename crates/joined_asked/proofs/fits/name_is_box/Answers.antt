use Rattle.std.proofs.Common.{sym, ap, ◌∙◌}
use Rattle.std.specs.Option.{option_map}
use Rattle.joined_table.specs.Views.{source_view}
use Rattle.joined_module.specs.Rows.{is_box}
use Rattle.joined_check.specs.Parts.{source_or}
use Rattle.joined_check.proofs.Steps.{source_here}
use Rattle.joined_asked.proofs.fits.name_is_box.Goals as goal

pub returns-in-Some : goal.returns-in-Some
returns-in-Some c =
    let h = source_here c.args.given.now c.args.name c.get.result c.get.ensures.lookup.0 c.get.ensures.lookup.1 in
    let e = ap (λ o. source_or (option_map (λ s. source_view s.now) o)) c.in-Some.is in
    c.is_box.ensures ∙ ap (λ s. is_box s c.args.n) (sym e ∙ h)

pub returns-in-None : goal.returns-in-None
returns-in-None c =
    let h = source_here c.args.given.now c.args.name c.get.result c.get.ensures.lookup.0 c.get.ensures.lookup.1 in
    let e = ap (λ o. source_or (option_map (λ s. source_view s.now) o)) c.in-None.is in
    ap (λ s. is_box s c.args.n) (sym e ∙ h)
