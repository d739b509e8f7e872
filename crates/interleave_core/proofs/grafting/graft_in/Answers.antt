use Rattle.std.proofs.Common.{◌≤◌, ◌+◌, ◌-◌, sym, ap, ◌∙◌, subst}
use Rattle.std.specs.FinMap.{get, len}
use Rattle.interleave_core.specs.Grafting.{AllFit, Placed, given}
use Rattle.interleave_core.specs.Grafts.{Grafts}
use Rattle.interleave_core.specs.Parts.{state}
use Rattle.interleave_core.proofs.Grafted.{gone_here, fit_rest, still_live, graft_few, grafts}
use Rattle.interleave_core.proofs.grafting.graft_in.Goals as goal

pub put_parts-requires-clause-rest : goal.put_parts-requires-clause-rest
put_parts-requires-clause-rest c = ap (λ g. get g 0) c.take-first.ensures.rest ∙ gone_here c.args.branch.live 0

pub put_parts-requires-clause-fit : goal.put_parts-requires-clause-fit
put_parts-requires-clause-fit c =
    subst (λ g. AllFit g c.args.parts.now.next) (sym c.take-first.ensures.rest)
    (fit_rest c.args.branch.live c.args.parts.now.next c.args.branch.next c.requires.branch_low c.requires.room)

pub returns-clause-ok : goal.returns-clause-ok
returns-clause-ok c =
    let p = c.args.parts.now in
    let b = c.args.branch in
    let h = c.put_parts.new.live in
    let placed = subst (λ g. Placed p.live g p.next h) c.take-first.ensures.rest c.in_ok-put_parts.ensures.ok in
    let after = c.put_first.ensures ∙ ap (given h c.args.ticket) c.take-first.ensures.took in
    subst (λ f. Grafts (state p.live p.joins p.next p.answer) c.args.ticket (state b.live b.joins b.next b.answer)
    (state f c.put_parts.new.joins (p.next + (b.next - 1)) p.answer)) (sym after)
    (grafts p.live b.live h p.joins b.joins c.put_parts.new.joins p.next b.next c.args.ticket p.answer b.answer c.requires.low
    c.requires.live c.requires.begun placed c.in_ok-put_parts.ensures.joined)

pub returns-clause-few : goal.returns-clause-few
returns-clause-few c =
    let p = c.args.parts.now in
    let b = c.args.branch in
    let h = c.put_parts.new.live in
    let placed = c.in_ok-put_parts.ensures.ok in
    let live = still_live p.live c.take-first.new.self h p.next c.args.ticket c.requires.low c.requires.live placed in
    let count = subst (λ g. len h ≤ len p.live + len g) c.take-first.ensures.rest c.in_ok-put_parts.ensures.count in
    let after = c.put_first.ensures ∙ ap (given h c.args.ticket) c.take-first.ensures.took in
    subst (λ f. len f ≤ p.next + (b.next - 1)) (sym after)
    (graft_few p.live b.live h p.next b.next c.args.ticket live c.requires.begun c.requires.few c.requires.branch_few count)
