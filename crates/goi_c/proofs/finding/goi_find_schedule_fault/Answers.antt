use Rattle.goi_c.proofs.Found.{found}
use Rattle.goi_c.proofs.finding.goi_find_schedule_fault.Goals as goal

pub returns : goal.returns
returns c =
    let h = c.replay_text-replayed in
    found _ _ (c.law_tasks_settled.ensures.replays c.args.text.now c.args.schedule.now).right_or_faulty h.result _ _ h.ensures.report
    h.ensures.fault c.fill_result.ensures
