use Rattle.std.proofs.Common.{rules}
use Rattle.goi_batches.proofs.report.tell.Goals as goal

pub returns-clause-report : goal.returns-clause-report
returns-clause-report c = search rules
