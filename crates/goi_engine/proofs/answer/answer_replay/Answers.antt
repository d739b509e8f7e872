use Rattle.pcf_values.specs.Most.{most_schedule_bytes}
use Rattle.goi_world.specs.Seen.{holding}
use Rattle.goi_engine.proofs.Answered.{schedule_job}
use Rattle.goi_engine.proofs.Loading.{load_fits, kept_holding}
use Rattle.goi_engine.proofs.answer.answer_replay.Goals as goal

pub returns-in-Ok-clause-answers : goal.returns-in-Ok-clause-answers
returns-in-Ok-clause-answers g c = λ told fits.
    let old = g.F.Files.seen c.args.files.now in
    let mid = g.F.Files.seen c.load_net.new.files in
    let new = g.F.Files.seen c.answer_schedule-answer.new.files in
    let is = c.answer_schedule-answer.ensures in
    let earlier = load_fits g.F.Files.reads g.F.Files.fits g.met.F.Files.fits_each told c.args.schedule.now most_schedule_bytes
    c.load_net.new.files c.answer_schedule-answer.new.files is.reads fits in
    schedule_job c.args.file.now c.args.schedule.now c.args.window (holding told old) (holding told new) (holding told mid) c.in-Ok.net
    c.answer_schedule-answer.result (kept_holding told old mid c.in-Ok.ensures.kept) (c.in-Ok.ensures.net told earlier)
    (is.answers told fits)
