use Rattle.std.proofs.Common.{ap, ◌∙◌}
use Rattle.std.proofs.lemmas.List.{take_all}
use Rattle.schedule_log.specs.Logs.{by, tickets_in_log}
use Rattle.schedule_log.specs.LogsSeen.{LogSeen}
use Rattle.goi_reports.proofs.Rounding.{tickets_kept}
use Rattle.goi_reports.proofs.span.log_of.Goals as goal

pub returns : goal.returns
returns c =
    ap (λ (l : LogSeen). tickets_in_log l.entries) c.loop-ticket.invariant
    ∙ ap (λ l. tickets_in_log (by 0 l)) (take_all c.loop-ticket.ticket-index c.args.tickets.now c.loop-ticket-test.false)
    ∙ tickets_kept c.args.tickets.now
