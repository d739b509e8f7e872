use Rattle.std.proofs.Common.{subst}
use Rattle.schedule_log.specs.Logs.{tickets_in_log}
use Rattle.interleave_laws.specs.Maps.{LeadsToMap}
use Rattle.replay_check.proofs.Making.{all_moved}
use Rattle.replay_check.proofs.referee.replay.Goals as goal

pub returns : goal.returns
returns c =
    all_moved c.args.net.now c.args.log.now.entries c.make_moves.new.core _
    (subst (λ es. LeadsToMap c.args.net.now (tickets_in_log es) c.make_moves.new.core) c.runs.ensures.value c.in_default.ensures.moves)
    c.answer.ensures c.len.ensures
