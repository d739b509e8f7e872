use Rattle.std.proofs.Common.{ap, ◌∙◌}
use Rattle.std.specs.FinMap.{insert}
use Rattle.move_rules.specs.Views.{token_of}
use Rattle.interleave_core.proofs.LiveSeen.{has_live, live_put}
use Rattle.interleave_core.proofs.live.LiveTokens.replace.Goals as goal

pub replace_in-requires : goal.replace_in-requires
replace_in-requires c = has_live c.self.inside.tokens c.args.self.now c.self.view_is c.args.ticket c.requires

pub returns : goal.returns
returns c = live_put c.self.inside.tokens c.replace_in.new.tokens c.args.ticket c.args.token c.replace_in.ensures.0 ∙
    ap (λ f. insert f c.args.ticket (token_of c.args.token)) c.self.view_is
