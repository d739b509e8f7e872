use Rattle.replay_check.proofs.OneReplay.{one_replay}
use Rattle.replay_check.proofs.laws.law_one_replay.Goals as goal

pub returns : goal.returns
returns c = one_replay
