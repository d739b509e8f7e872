use Rattle.std.proofs.Common.{sym, ap, ◌∙◌}
use Rattle.std.specs.Option.{option_map}
use Rattle.net_text.proofs.LinesFit.{form_read}
use Rattle.net_text.proofs.node_line.from_form.Goals as goal

pub returns-in-Some : goal.returns-in-Some
returns-in-Some c =
    c.node_with.ensures
    ∙ form_read c.args.form c.count.result c.args.text.now c.in-Some.numbers.items c.deref.result.now c.count.ensures
    (ap (option_map (λ v. v.items)) (sym c.in-Some.is) ∙ c.in_ok-numbers.ensures) c.deref.ensures.value
