use Rattle.batch_pool.proofs.Pausing.{pause_holds}
use Rattle.batch_pool.proofs.laws.law_pause_holds.Goals as goal

pub returns : goal.returns
returns c = pause_holds c.law_take_keeps.ensures.idle c.law_take_keeps.ensures.reserved
