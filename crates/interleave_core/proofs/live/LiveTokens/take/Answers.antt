use Rattle.std.proofs.Common.{sym, ap, ◌∙◌}
use Rattle.std.specs.Option.{option_map}
use Rattle.std.specs.FinMap.{get, remove}
use Rattle.move_rules.specs.Views.{token_of}
use Rattle.interleave_core.proofs.LiveSeen.{live_get, live_gone}
use Rattle.interleave_core.proofs.live.LiveTokens.take.Goals as goal

pub returns-clause-took : goal.returns-clause-took
returns-clause-took c = ap (option_map token_of) c.take_from.ensures.took ∙ sym (live_get c.self.inside.tokens c.args.ticket) ∙
    ap (λ f. get f c.args.ticket) c.self.view_is

pub returns-clause-rest : goal.returns-clause-rest
returns-clause-rest c = live_gone c.self.inside.tokens c.take_from.new.tokens c.args.ticket c.take_from.ensures.rest.0 ∙
    ap (λ f. remove f c.args.ticket) c.self.view_is
