use Rattle.schedule_log.specs.LogsSeen.{tickets_read}
use Rattle.schedule_log.proofs.Texts.{body_answered, not_long}
use Rattle.schedule_log.proofs.text.read_schedule.Goals as goal

pub returns-in-Some-clause-answer : goal.returns-in-Some-clause-answer
returns-in-Some-clause-answer c =
    body_answered c.args.bytes.now _ c.cut_line.result.1.now c.in-Some.version (tickets_read c.read_lines.result)
    (not_long c.is_too_long.result _ c.is_too_long.ensures c.if-is_too_long.false) c.cut_line.ensures.first c.in-Some.ensures.some
    c.read_lines.ensures.answer
