use Rattle.std.proofs.Common.{◌≡◌, ◌++◌, ◌∷◌, [], length, sym, ◌∙◌, subst}
use Rattle.interleave_laws.specs.Maps.{seen}
use Rattle.round_laws.specs.Rounds.{live_of}
use Rattle.round_runs.specs.Making.{IsMade}
use Rattle.round_runs.proofs.Going.{made_count, made_more}
use Rattle.round_runs.proofs.rounds.round_on.Goals as goal

pub returns-clause-made : goal.returns-clause-made
returns-clause-made c =
    let net = c.args.net.now in
    let S = c.args.made.now.core in
    let tickets = c.args.made.now.tickets.items in
    let profile = c.args.made.now.profile.items in
    let live = c.live_count-live.result in
    let T = c.move_all.new.core in
    let count : live ≡ length (live_of (seen S)) =
    c.live_count-live.ensures ∙ made_count net tickets profile c.args.made.now.widest S c.requires.made c.requires.runs in
    let made = made_more net tickets profile c.args.made.now.widest S c.requires.made c.requires.runs live T count c.requires.unanswered
    c.in_ok-move_all.ensures.moves in
    subst (λ l. IsMade net l c.push.new.self.items c.max-made.result T) (sym c.in_ok-move_all.ensures.log)
    (subst (λ l. IsMade net (tickets ++ live_of (seen S)) l c.max-made.result T) (sym c.in_ok-push.ensures.items)
    (subst (λ w. IsMade net (tickets ++ live_of (seen S)) (profile ++ live ∷ []) w T) (sym c.max-made.ensures) made))
