use Rattle.std.proofs.Common.{List, ℕ, subst}
use Rattle.pcf_values.specs.Most.{most_program_bytes}
use Rattle.goi_world.specs.Seen.{holding}
use Rattle.goi_engine.specs.Answers.{Says}
use Rattle.goi_tasks.specs.Calls.{ReportsCall, FaultyCall}
use Rattle.goi_engine.proofs.LoadedFiles.{answers_file, call_goes, call_fault_goes}
use Rattle.goi_engine.proofs.calling.call_file.Goals as goal

pub returns-in-Ok-clause-answers : goal.returns-in-Ok-clause-answers
returns-in-Ok-clause-answers g c = λ told fits.
    let workers = g.C.Crew.count c.args.crew.now in
    let numbers = c.args.numbers.now in
    let old = holding told (g.F.Files.seen c.args.files.now) in
    let new = holding told (g.F.Files.seen c.load.new.files) in
    answers_file most_program_bytes (ReportsCall workers c.args.budget c.args.shown numbers) (FaultyCall numbers)
    (call_goes workers c.args.budget c.args.shown numbers) (call_fault_goes numbers) c.args.file.now old new c.in-Ok.bytes.items
    c.call_text.result c.in-Ok.ensures.ok (λ h. let k = c.in-Ok.ensures.lacked h in cc) (c.in-Ok.ensures.bytes told fits)
    (subst (λ (b : List ℕ). Says (ReportsCall workers c.args.budget c.args.shown numbers b) (FaultyCall numbers b) c.call_text.result)
    c.deref.ensures.value c.call_text.ensures)
