use Rattle.goi_c.proofs.Called.{called}
use Rattle.goi_c.proofs.Owned.{owned}
use Rattle.goi_c.proofs.checking.goi_replay.Goals as goal

pub returns-clause-calls : goal.returns-clause-calls
returns-clause-calls c =
    let h = c.replay_text-replayed in
    called _ _ h.result _ h.ensures.report h.ensures.fault c.give_result.ensures

pub returns-clause-own : goal.returns-clause-own
returns-clause-own c =
    let h = c.replay_text-replayed in
    owned _ _ _ (c.law_tasks_settled.ensures.replays c.args.text.now c.args.schedule.now) _
    (called _ _ h.result _ h.ensures.report h.ensures.fault c.give_result.ensures)
