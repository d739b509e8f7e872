use Rattle.std.proofs.Common.{rules}
use Rattle.goi_batches.proofs.sections.push_first.Goals as goal

pub returns-in_ok-push_section-in-Some-clause-statuses : goal.returns-in_ok-push_section-in-Some-clause-statuses
returns-in_ok-push_section-in-Some-clause-statuses c = search rules
