use Rattle.std.proofs.Common.{ℕ, List, subst}
use Rattle.pcf_values.specs.Most.{most_schedule_bytes}
use Rattle.goi_world.specs.Seen.{holding}
use Rattle.goi_engine.specs.Answers.{Says}
use Rattle.goi_tasks.specs.Replaying.{ReportsReplay, FaultySchedule}
use Rattle.goi_engine.proofs.LoadedFiles.{answers_file, replay_goes, moves_goes}
use Rattle.goi_engine.proofs.answer.answer_schedule.Goals as goal

pub returns-in-Ok-clause-answers : goal.returns-in-Ok-clause-answers
returns-in-Ok-clause-answers g c = λ told fits t is.
    let old = holding told (g.F.Files.seen c.args.files.now) in
    let new = holding told (g.F.Files.seen c.load.new.files) in
    answers_file most_schedule_bytes (ReportsReplay t c.args.window) (FaultySchedule t) (replay_goes t c.args.window) (moves_goes t)
    c.args.file.now old new
    c.in-Ok.bytes.items c.answer_moves.result c.in-Ok.ensures.ok
    (λ h. let k = c.in-Ok.ensures.lacked h in cc) (c.in-Ok.ensures.bytes told fits)
    (subst (λ (b : List ℕ). Says (ReportsReplay t c.args.window b) (FaultySchedule t b) c.answer_moves.result) c.deref.ensures.value
    (c.answer_moves.ensures t is))
