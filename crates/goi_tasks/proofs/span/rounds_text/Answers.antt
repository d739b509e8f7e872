use Rattle.std.proofs.Common.{◌≡◌, ℕ, List, IfOk, subst}
use Rattle.goi_reports.specs.Spans.{span_report}
use Rattle.goi_tasks.proofs.span.rounds_text.Goals as goal

pub returns : goal.returns
returns c =
    let made = c.args.made.now in
    let parts = c.args.parts in
    subst (λ (l : List ℕ). IfOk c.span_report.result (λ v.
    v.items ≡ span_report made.answer made.rounds l made.profile.items made.widest parts.profile parts.schedule)) c.deref.ensures.value
    (subst (λ (l : List ℕ). IfOk c.span_report.result (λ v.
    v.items ≡ span_report made.answer made.rounds c.deref.result.now l made.widest parts.profile parts.schedule)) c.deref-2.ensures.value
    c.span_report.ensures)
