use Rattle.std.proofs.Common.{Some, sym, ap, ◌∙◌}
use Rattle.move_rules.specs.Views.{token_of}
use Rattle.test_core.proofs.Reaching.{occurs}
use Rattle.test_core.proofs.branches.seed_of.Goals as goal

pub new-requires : goal.new-requires
new-requires g c =
    occurs g.N.OnNet.net c.requires.0 c.args.ticket c.args.core.now (token_of c.in_ok-token-in-Some.token) c.requires.1
    (sym c.in-Some.ensures ∙ ap (λ k. Some (token_of k)) (sym c.in_ok-token-in-Some.ensures))
