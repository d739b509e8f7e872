use Rattle.std.proofs.Common.{◌≡◌, ℕ, List, IfOk, subst}
use Rattle.goi_reports.specs.Reports.{run_report}
use Rattle.goi_tasks.specs.Notes.{progress_lines}
use Rattle.goi_tasks.proofs.RunReports.{reported}
use Rattle.goi_tasks.proofs.running.report_run.Goals as goal

pub returns : goal.returns
returns g c =
    let ran = c.in_ok-ended.ensures in
    let ended = c.in_ok-ended.ended in
    let shown = c.args.shown in
    let made = c.report_ended-report.ensures in
    let text = subst (λ (n : ℕ). IfOk c.report_ended-report.result (λ v.
    v.text.items ≡ run_report ended.answer ended.log.entries n shown.schedule shown.tally)) c.workers.ensures made.text in
    let notes = subst (λ (ns : List ℕ). IfOk c.report_ended-report.result (λ v. v.notes.items ≡ progress_lines ns))
    c.deref.ensures.value made.notes in
    reported c.args.net.now (g.C.Crew.count c.args.crew.now) c.args.budget c.requires.budget ended.answer ended.log.entries ran.run
    ran.alone shown c.in_ok-ended.numbers.items (c.requires.reads _ _ ran.reads) c.report_ended-report.result made.fits text notes
    made.status
