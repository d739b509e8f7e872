use Rattle.std.proofs.Common.{◌++◌, ◌-◌, ◌∙◌, ap, drop, take, length}
use Rattle.schedule_log.specs.KeptRuns.{MovesSeen}
use Rattle.schedule_log.proofs.Printing.{first_of, unwritten}
use Rattle.schedule_log.proofs.print.push_runs.Goals as goal

pub returns-in_ok-push_from-in-len1-up : goal.returns-in_ok-push_from-in-len1-up
returns-in_ok-push_from-in-len1-up c =
    let e = ap (λ (m : MovesSeen). m.ticket) c.first-item.is in
    let f = ap (λ (m : MovesSeen). m.count) c.first-item.is in
    c.in_ok-push_from-in-len1-up.ensures
    ∙ (λ j. c.args.text.now.items ++ unwritten ((c.ticket.ensures ∙ e) j) ((c.count.ensures.value ∙ f) j)
    (take (length c.args.runs.now - 1) (drop 1 c.args.runs.now)))
    ∙ ap (λ l. c.args.text.now.items ++ l) (first_of c.args.runs.now c.first-item.result c.in-len1-up.len_at_least)
