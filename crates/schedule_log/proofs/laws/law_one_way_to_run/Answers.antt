use Rattle.schedule_log.proofs.OneList.{one_way}
use Rattle.schedule_log.proofs.laws.law_one_way_to_run.Goals as goal

pub returns : goal.returns
returns c = one_way
