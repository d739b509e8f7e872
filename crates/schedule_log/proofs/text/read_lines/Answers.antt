use Rattle.std.proofs.Common.{inr}
use Rattle.schedule_log.proofs.Texts.{log_filled}
use Rattle.schedule_log.proofs.text.read_lines.Goals as goal

pub returns-clause-answer : goal.returns-clause-answer
returns-clause-answer c = inr (log_filled _ _ _ _ c.in-Ok.ensures c.in-Ok-with_room.ensures c.push_moves.ensures.entries
    c.push_moves.ensures.room).answer

pub returns-clause-log : goal.returns-clause-log
returns-clause-log c = (log_filled _ _ _ _ c.in-Ok.ensures c.in-Ok-with_room.ensures c.push_moves.ensures.entries
    c.push_moves.ensures.room).log
