use Rattle.std.proofs.Common.{sym, ap, subst}
use Rattle.net_build.specs.Nets.{NetTree}
use Rattle.move_rules.specs.Views.{token_of}
use Rattle.branch_laws.specs.Laws.{Occurs}
use Rattle.branch_runs.specs.Growing.{PlayedSo}
use Rattle.branch_runs.proofs.playing.branch_of.Goals as goal

pub play-requires-clause-begins : goal.play-requires-clause-begins
play-requires-clause-begins g c =
    let x = token_of c.into_token-token.result in
    (x, subst (λ (n : NetTree). Occurs n x) (sym c.net.ensures.net) c.into_token-token.ensures.occurs, c.in_ok-core.ensures)

pub invariant_of-result : goal.invariant_of-result
invariant_of-result g c =
    let x = token_of c.into_token-token.result in
    let occurs = subst (λ (n : NetTree). Occurs n x) (sym c.net.ensures.net) c.into_token-token.ensures.occurs in
    let played = c.in_ok-play.ensures x occurs c.in_ok-core.ensures in
    let named = subst (λ (n : NetTree). PlayedSo n x c.args.most c.args.plain c.play.new.log c.play.new.core) c.net.ensures.net played in
    let its = subst (λ y. PlayedSo g.N.OnNet.net y c.args.most c.args.plain c.play.new.log c.play.new.core)
    (sym (ap token_of c.in_ok-before.ensures)) named in
    its.0

pub returns-clause-played : goal.returns-clause-played
returns-clause-played g c =
    let x = token_of c.into_token-token.result in
    let occurs = subst (λ (n : NetTree). Occurs n x) (sym c.net.ensures.net) c.into_token-token.ensures.occurs in
    let played = c.in_ok-play.ensures x occurs c.in_ok-core.ensures in
    let named = subst (λ (n : NetTree). PlayedSo n x c.args.most c.args.plain c.play.new.log c.play.new.core) c.net.ensures.net played in
    let its = subst (λ y. PlayedSo g.N.OnNet.net y c.args.most c.args.plain c.play.new.log c.play.new.core)
    (sym (ap token_of c.in_ok-before.ensures)) named in
    its.1
