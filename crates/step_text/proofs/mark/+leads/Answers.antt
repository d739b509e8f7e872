use Rattle.std.proofs.Common.{◌∙◌}
use Rattle.std.proofs.lemmas.Result.{IfOk-weaker}
use Rattle.step_text.proofs.Leading.{moved}
use Rattle.step_text.proofs.mark.+leads.Goals as goal

pub lead_behind-returns : goal.lead_behind-returns
lead_behind-returns t c =
    IfOk-weaker c.lead.result _ _ (λ o e. e ∙ moved _ _ _ _ c.in_ok-extend_from_slice.ensures.items) c.lead.ensures

pub lead_within-returns : goal.lead_within-returns
lead_within-returns t c =
    IfOk-weaker c.lead_fitted.result _ _ (λ o e. e ∙ moved _ _ _ _ c.in_ok-extend_from_slice.ensures.items) c.lead_fitted.ensures
