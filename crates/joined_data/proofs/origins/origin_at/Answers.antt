use Rattle.std.proofs.Common.{sym, ap, ◌∙◌}
use Rattle.std.specs.Option.{option_map}
use Rattle.joined_data.specs.Views.{origin_if}
use Rattle.joined_data.proofs.Places.{read_at}
use Rattle.joined_data.proofs.origins.origin_at.Goals as goal

pub returns-in-Some : goal.returns-in-Some
returns-in-Some c =
    let h = read_at c.args.list.now c.args.i c.get.result c.get.ensures.lookup.0 c.get.ensures.lookup.1 in
    sym (ap (λ o. origin_if (option_map (λ s. s.now) o)) c.in-Some.is) ∙ h

pub returns-in-None : goal.returns-in-None
returns-in-None c =
    let h = read_at c.args.list.now c.args.i c.get.result c.get.ensures.lookup.0 c.get.ensures.lookup.1 in
    sym (ap (λ o. origin_if (option_map (λ s. s.now) o)) c.in-None.is) ∙ h
