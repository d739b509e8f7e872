use Rattle.fork_join.proofs.Nesting.{on_err}
use Rattle.interleave_core.proofs.LiveSeen.{has_live, changes, if_ok}
use Rattle.interleave_core.proofs.live.LiveTokens.go.Goals as goal

pub go_in-requires : goal.go_in-requires
go_in-requires c = has_live c.self.inside.tokens c.args.self.now c.self.view_is c.args.ticket c.requires

pub returns-clause-ok : goal.returns-clause-ok
returns-clause-ok c = if_ok c.go_in.result c.go_in.ensures.ok
    (λ n h. changes c.self.inside.tokens c.args.self.now c.self.view_is c.go_in.new.tokens c.args.ticket h)

pub returns-clause-err : goal.returns-clause-err
returns-clause-err c = on_err c.go_in.result c.go_in.ensures.err
    (λ h. changes c.self.inside.tokens c.args.self.now c.self.view_is c.go_in.new.tokens c.args.ticket h)
