use Rattle.replay_check.proofs.OneReplay.{run_is_replayed, replay_is_run}
use Rattle.replay_check.proofs.laws.law_replay_is_run.Goals as goal

pub returns-clause-run : goal.returns-clause-run
returns-clause-run c = run_is_replayed

pub returns-clause-replay : goal.returns-clause-replay
returns-clause-replay c = replay_is_run
