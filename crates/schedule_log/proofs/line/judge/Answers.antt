use Rattle.std.proofs.Common.{rules}
use Rattle.schedule_log.proofs.line.judge.Goals as goal

pub returns-clause-run : goal.returns-clause-run
returns-clause-run c = search rules

pub returns-clause-few : goal.returns-clause-few
returns-clause-few c = search rules
