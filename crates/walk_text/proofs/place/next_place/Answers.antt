use Rattle.std.proofs.Common.{◌≡◌, ◌+◌, ◌∙◌, ap, arith, get_or, subst, sym}
use Rattle.schedule_log.specs.KeptRuns.{MovesSeen}
use Rattle.walk_text.specs.Standing.{StandsAt}
use Rattle.walk_text.proofs.Places.{next_stands, run_ends}
use Rattle.walk_text.proofs.place.next_place.Goals as goal

pub returns-then-i-end : goal.returns-then-i-end
returns-then-i-end c =
    let rs = c.args.runs.now in
    let at = c.args.place in
    let d = c.index-runs-place.result in
    let n : c.count.result ≡ (get_or rs at.run d).count =
    c.count.ensures.value ∙ ap (λ (m : MovesSeen). m.count) c.index-runs-place.is in
    let f = c.if-i-end.true in
    next_stands rs at.run at.begins c.args.i d c.requires.stands c.requires.inside (omega (arith, f, n))

pub returns : goal.returns
returns c =
    let rs = c.args.runs.now in
    let at = c.args.place in
    let d = c.index-runs-place.result in
    let n : c.count.result ≡ (get_or rs at.run d).count =
    c.count.ensures.value ∙ ap (λ (m : MovesSeen). m.count) c.index-runs-place.is in
    let f = c.if-i-end.false in
    subst (λ n. StandsAt rs (at.run + 1) (at.begins + n) (c.args.i + 1)) (sym n)
    (run_ends rs at.run at.begins c.args.i d c.requires.stands c.requires.inside (omega (arith, f, n)) c.requires.each)
