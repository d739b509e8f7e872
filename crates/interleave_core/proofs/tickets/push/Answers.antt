use Rattle.std.proofs.Common.{ap, ◌∙◌}
use Rattle.interleave_core.specs.Tickets.{spelled}
use Rattle.interleave_core.proofs.Spelled.{spelled_more}
use Rattle.interleave_core.proofs.tickets.push.Goals as goal

pub returns-clause-ok : goal.returns-clause-ok
returns-clause-ok c =
    ap spelled c.in_ok-push.ensures.items ∙ spelled_more c.args.runs.now.items (record { ticket = c.args.ticket; count = c.args.count })
