use Rattle.std.proofs.Common.{◌∙◌, ap}
use Rattle.std.proofs.lemmas.Result.{IfOk-weaker}
use Rattle.demo_text.specs.Text.{doubled}
use Rattle.demo_text.proofs.Steps.{next_sum}
use Rattle.demo_text.proofs.text.+sum_text.Goals as goal

pub returns-in_ok-part : goal.returns-in_ok-part
returns-in_ok-part t c =
    IfOk-weaker c.doubled.result _ _
    (λ text is. is ∙ ap doubled (c.as_str.ensures.value ∙ c.in_ok-part.ensures)
    ∙ next_sum c.args.depth c.if-depth-eq0.false) c.doubled.ensures
