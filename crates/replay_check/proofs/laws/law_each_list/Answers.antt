use Rattle.replay_check.proofs.OneReplay.{each_list}
use Rattle.replay_check.proofs.laws.law_each_list.Goals as goal

pub returns : goal.returns
returns c = each_list
