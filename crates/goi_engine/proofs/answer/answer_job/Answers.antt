use Rattle.std.proofs.Common.{ap}
use Rattle.goi_jobs.specs.Jobs.{job_of}
use Rattle.goi_world.specs.Seen.{holding}
use Rattle.goi_engine.proofs.Answered.{text_of_job, call_of_job, verilog_of_job}
use Rattle.goi_engine.proofs.answer.answer_job.Goals as goal

pub returns-in-Text-clause-answers : goal.returns-in-Text-clause-answers
returns-in-Text-clause-answers g c = λ told fits.
    let it = c.in-Text in
    text_of_job _ it.file it.workers it.task (ap job_of it.is) c.as_str.result.now c.as_str.ensures
    (holding told (g.F.Files.seen c.args.files.now)) (holding told (g.F.Files.seen c.answer_run.new.files)) c.answer_run.result
    (c.answer_run.ensures.answers told fits)

pub returns-in-Call-clause-answers : goal.returns-in-Call-clause-answers
returns-in-Call-clause-answers g c = λ told fits.
    let it = c.in-Call in
    call_of_job _ it.file it.numbers.items it.workers it.budget it.schedule it.tally (ap job_of it.is) c.as_str-in-Call.result.now
    c.deref.result.now c.as_str-in-Call.ensures c.deref.ensures.value (holding told (g.F.Files.seen c.args.files.now))
    (holding told (g.F.Files.seen c.answer_call.new.files)) c.answer_call.result (c.answer_call.ensures.answers told fits)

pub returns-in-Verilog-clause-answers : goal.returns-in-Verilog-clause-answers
returns-in-Verilog-clause-answers g c = λ told fits.
    let it = c.in-Verilog in
    verilog_of_job _ it.file it.name it.verilog (ap job_of it.is) c.as_str-in-Verilog.result.now c.as_str-in-Verilog-2.result.now
    c.as_str-in-Verilog.ensures c.as_str-in-Verilog-2.ensures (holding told (g.F.Files.seen c.args.files.now))
    (holding told (g.F.Files.seen c.answer_verilog.new.files)) c.answer_verilog.result (c.answer_verilog.ensures.answers told fits)
