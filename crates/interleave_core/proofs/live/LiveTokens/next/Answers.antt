use Rattle.interleave_core.proofs.LiveSeen.{next_live}
use Rattle.interleave_core.proofs.live.LiveTokens.next.Goals as goal

pub returns : goal.returns
returns c = next_live c.self.inside.tokens c.args.self.now c.self.view_is c.args.after c.next_in.result c.next_in.ensures
