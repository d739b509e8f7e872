use Rattle.std.proofs.Common.{◌∙◌, ap, get_or}
use Rattle.schedule_log.specs.KeptRuns.{MovesSeen}
use Rattle.walk_text.proofs.Places.{entry_is, move_is}
use Rattle.walk_text.proofs.place.move_at.Goals as goal

pub returns : goal.returns
returns c =
    let rs = c.args.runs.now in
    let at = c.args.place in
    let d = c.index-runs-place.result in
    let is = c.index-runs-place.is in
    entry_is c.ticket.result c.worker.result (get_or rs at.run d) (c.ticket.ensures ∙ ap (λ (m : MovesSeen). m.ticket) is)
    (c.worker.ensures.value ∙ ap (λ (m : MovesSeen). m.worker) is)
    ∙ move_is rs at.run at.begins c.args.i d c.requires.stands c.requires.inside _
