use Rattle.std.proofs.Common.{◌≡◌, ◌-◌, IfOk, sym, ap, ◌∙◌, subst, arith}
use Rattle.std.specs.Option.{option_map}
use Rattle.pcf_values.specs.Views.{ty_of}
use Rattle.net_text.proofs.TypesRead.{right_goes}
use Rattle.net_text.proofs.types.+types.Goals as goal

pub read_right-returns-in-Some : goal.read_right-returns-in-Some
read_right-returns-in-Some t c =
    let here = right_goes c.args.height (c.args.height - 1) c.args.text.now (ty_of c.in-Some.left.value, c.in-Some.rest.now)
    (omega (arith, c.if-height-eq0.false)) (sym c.in_ok-left.ensures ∙ ap (option_map (λ r. (ty_of r.0.value, r.1.now))) c.in-Some.is) in
    subst (λ found. IfOk c.read_factor.result (λ o. option_map (λ r. (ty_of r.0.value, r.1.now)) o ≡ found)) (sym here)
    c.read_factor.ensures
