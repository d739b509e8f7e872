use Rattle.std.proofs.Common.{rules}
use Rattle.goi_reports.proofs.check.push_asked_term.Goals as goal

pub returns-in_ok-push_term_line : goal.returns-in_ok-push_term_line
returns-in_ok-push_term_line c = search rules
