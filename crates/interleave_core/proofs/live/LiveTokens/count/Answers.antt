use Rattle.std.proofs.Common.{◌∙◌}
use Rattle.interleave_core.proofs.Counting.{live_len}
use Rattle.interleave_core.proofs.live.LiveTokens.count.Goals as goal

pub returns : goal.returns
returns c = c.len.ensures.len ∙ live_len c.self.inside.tokens c.args.self.now c.self.view_is c.len.ensures.ordered
