use Rattle.interleave_core.proofs.LiveSeen.{newest_live}
use Rattle.interleave_core.proofs.live.LiveTokens.newest.Goals as goal

pub returns : goal.returns
returns c = newest_live c.self.inside.tokens c.args.self.now c.self.view_is c.newest_in.result c.newest_in.ensures
