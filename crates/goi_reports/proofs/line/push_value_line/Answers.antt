use Rattle.std.proofs.Common.{rules}
use Rattle.goi_reports.proofs.line.push_value_line.Goals as goal

pub returns-in-None : goal.returns-in-None
returns-in-None c = search rules
