use Rattle.schedule_log.proofs.Tallies.{tally_adds_up}
use Rattle.schedule_log.proofs.laws.law_tally.Goals as goal

pub returns : goal.returns
returns c = tally_adds_up
