use Rattle.interleave_core.proofs.LiveSeen.{has_live, sent_live}
use Rattle.interleave_core.proofs.live.LiveTokens.send.Goals as goal

pub send_in-requires : goal.send_in-requires
send_in-requires c = has_live c.self.inside.tokens c.args.self.now c.self.view_is c.args.ticket c.requires

pub returns : goal.returns
returns c = sent_live c.self.inside.tokens c.args.self.now c.self.view_is c.send_in.new.tokens c.args.ticket c.args.wire c.args.up
    c.args.kind c.send_in.ensures
