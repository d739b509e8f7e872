use Rattle.std.proofs.Common.{Bool, sym, subst}
use Rattle.goi_tasks.specs.Parts.{NumbersOf}
use Rattle.goi_c.proofs.Found.{found}
use Rattle.goi_c.proofs.finding.find_for.Goals as goal

pub returns : goal.returns
returns c =
    let h = c.report_text-done in
    found _ _ (c.law_tasks_settled.ensures.tasks 1 c.args.task c.args.bytes.now).right_or_faulty h.result _ _ h.ensures.report
    h.ensures.fault
    c.fill_result.ensures

pub report_text-done-requires-clause-reads : goal.report_text-done-requires-clause-reads
report_text-done-requires-clause-reads c = λ moves numbers e.
    subst (λ (b : Bool). NumbersOf b moves numbers) (sym c.requires.quiet) e
