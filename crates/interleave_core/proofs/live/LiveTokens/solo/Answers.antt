use Rattle.fork_join.proofs.Nesting.{on_err}
use Rattle.interleave_core.proofs.LiveSeen.{has_live, all_stay, solo_ok, unaided_live}
use Rattle.interleave_core.proofs.live.LiveTokens.solo.Goals as goal

pub solo_in-requires : goal.solo_in-requires
solo_in-requires c = has_live c.self.inside.tokens c.args.self.now c.self.view_is c.args.ticket c.requires

pub returns-clause-ok : goal.returns-clause-ok
returns-clause-ok c = solo_ok c.self.inside.tokens c.args.self.now c.self.view_is c.args.net.now c.solo_in.new.tokens c.args.ticket
    c.solo_in.result c.solo_in.ensures.ok

pub returns-clause-err : goal.returns-clause-err
returns-clause-err c = on_err c.solo_in.result c.solo_in.ensures.err
    (all_stay c.self.inside.tokens c.args.self.now c.self.view_is c.solo_in.new.tokens)

pub returns-clause-unaided : goal.returns-clause-unaided
returns-clause-unaided c = on_err c.solo_in.result c.solo_in.ensures.unaided
    (unaided_live c.self.inside.tokens c.args.self.now c.self.view_is c.args.net.now c.args.ticket)
