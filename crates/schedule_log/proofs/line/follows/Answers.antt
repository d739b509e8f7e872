use Rattle.std.proofs.Common.{rules}
use Rattle.schedule_log.proofs.line.follows.Goals as goal

pub returns-in-Some : goal.returns-in-Some
returns-in-Some c = search rules
