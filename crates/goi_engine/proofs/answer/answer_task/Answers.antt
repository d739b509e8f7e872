use Rattle.std.proofs.Common.{◌≡◌, ◌+◌, ℕ, List, take, IfSome, subst}
use Rattle.goi_world.specs.Seen.{holding}
use Rattle.goi_engine.specs.Answers.{Says}
use Rattle.goi_tasks.specs.Tasks.{most_bytes, ReportsText, FaultyFor}
use Rattle.goi_engine.proofs.LoadedFiles.{answers_file, report_goes, fault_goes}
use Rattle.goi_engine.proofs.answer.answer_task.Goals as goal

pub returns-in-Ok-clause-answers : goal.returns-in-Ok-clause-answers
returns-in-Ok-clause-answers g c = λ told fits.
    let task = c.args.task in
    let workers = g.C.Crew.count c.args.crew.now in
    let old = holding told (g.F.Files.seen c.args.files.now) in
    let new = holding told (g.F.Files.seen c.load.new.files) in
    answers_file (most_bytes task) (ReportsText workers task) (FaultyFor task) (report_goes workers task) (fault_goes task)
    c.args.file.now old new
    c.in-Ok.bytes.items c.answer_text.result c.in-Ok.ensures.ok
    (λ h. let k = c.in-Ok.ensures.lacked h in cc)
    (subst (λ (limit : ℕ). IfSome (old.told c.args.file.now) (λ bytes. c.in-Ok.bytes.items ≡ take (limit + 1) bytes)) c.most_bytes.ensures
    (c.in-Ok.ensures.bytes told fits))
    (subst (λ (b : List ℕ). Says (ReportsText workers task b) (FaultyFor task b) c.answer_text.result) c.deref.ensures.value
    c.answer_text.ensures)
