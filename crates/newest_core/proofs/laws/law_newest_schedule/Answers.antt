use Rattle.newest_core.proofs.Schedule.{is_stack}
use Rattle.newest_core.proofs.laws.law_newest_schedule.Goals as goal

pub returns : goal.returns
returns c = is_stack
