use Rattle.std.proofs.Common.{ap, ◌∙◌}
use Rattle.std.specs.FinMap.{insert}
use Rattle.move_rules.specs.Views.{token_of}
use Rattle.fork_join.proofs.Nesting.{on_ok}
use Rattle.interleave_core.proofs.LiveSeen.{live_put}
use Rattle.interleave_core.proofs.live.LiveTokens.put.Goals as goal

pub returns-clause-ok : goal.returns-clause-ok
returns-clause-ok c = on_ok c.put_in.result c.put_in.ensures.ok
    (λ u. live_put c.self.inside.tokens c.put_in.new.tokens c.args.ticket c.args.token u.0 ∙
    ap (λ f. insert f c.args.ticket (token_of c.args.token)) c.self.view_is)
