use Rattle.interleave_core.proofs.LiveSeen.{least_live}
use Rattle.interleave_core.proofs.live.LiveTokens.least.Goals as goal

pub returns : goal.returns
returns c = least_live c.self.inside.tokens c.args.self.now c.self.view_is c.least_in.result c.least_in.ensures
