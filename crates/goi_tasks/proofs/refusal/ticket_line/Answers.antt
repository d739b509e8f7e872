use Rattle.std.proofs.Common.{◌≡◌, ◌≤◌, List, ℕ, length, string_bytes, sym, subst}
use Rattle.std.proofs.lemmas.Result.{IfOk-weaker}
use Rattle.goi_tasks.specs.Refusals.{most_line, ticket_line}
use Rattle.goi_tasks.proofs.Short.{ticket_short}
use Rattle.goi_tasks.proofs.refusal.ticket_line.Goals as goal

pub returns-clause-short : goal.returns-clause-short
returns-clause-short c =
    IfOk-weaker c.format.result (λ text. string_bytes text ≡ ticket_line c.args.name.now c.args.at c.args.ticket)
    (λ text. length (string_bytes text) ≤ most_line)
    (λ text h. subst (λ (bs : List ℕ). length bs ≤ most_line) (sym h)
    (ticket_short c.args.name.now c.args.at c.args.ticket c.requires c.ranges.at.fits c.ranges.ticket.fits)) c.format.ensures.ok
