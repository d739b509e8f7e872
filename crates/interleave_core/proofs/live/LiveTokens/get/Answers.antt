use Rattle.std.proofs.Common.{sym, ap, ◌∙◌}
use Rattle.std.specs.Option.{option_map}
use Rattle.std.specs.FinMap.{get}
use Rattle.move_rules.specs.Views.{token_of}
use Rattle.interleave_core.proofs.LiveSeen.{live_get}
use Rattle.interleave_core.proofs.live.LiveTokens.get.Goals as goal

pub returns : goal.returns
returns c = ap (option_map token_of) c.look_in.ensures ∙ sym (live_get c.self.inside.tokens c.args.ticket) ∙
    ap (λ f. get f c.args.ticket) c.self.view_is
