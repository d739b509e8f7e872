use Rattle.std.proofs.Common.{◌≡◌, length, take}
use Rattle.schedule_log.specs.Logs.{by}
use Rattle.goi_reports.proofs.span.log_of.Given as goal

abbrev pub invariant-loop-ticket : goal.invariant-loop-ticket
invariant-loop-ticket l = l.log ≡ record { entries = by 0 (take l.ticket-index l.tickets); room = length l.tickets }
