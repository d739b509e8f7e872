use Rattle.std.proofs.Common.{sym, ap, ◌∙◌, subst, arith, ◌<◌}
use Rattle.std.specs.FinMap.{get, remove, len}
use Rattle.move_rules.specs.Views.{token_of}
use Rattle.interleave_core.proofs.Grafted.{Moved, fits, moves, dropped, one_fewer, its_token}
use Rattle.interleave_core.proofs.grafting.put_new.Goals as goal

pub overflow_add-next : goal.overflow_add-next
overflow_add-next c =
    let here = its_token c.loop-ticket.left c.in-Some.ticket c.take.result c.in-Some-take.token c.take.ensures.took c.in-Some-take.is in
    let room = fits c.args.live.now c.args.theirs c.loop-ticket.live c.loop-ticket.left c.args.next c.in-Some.ticket
    (token_of c.in-Some-take.token) c.loop-ticket.invariant here c.requires.fit in
    omega (arith, room)

pub loop-ticket-smaller : goal.loop-ticket-smaller
loop-ticket-smaller c =
    let less = one_fewer c.loop-ticket.left c.in-Some.ticket c.in-Some.ensures.0 in
    subst (λ f. len f < len c.loop-ticket.left) (sym c.take.ensures.rest) (omega (arith, less))

pub loop-ticket-preserved : goal.loop-ticket-preserved
loop-ticket-preserved c =
    let here = its_token c.loop-ticket.left c.in-Some.ticket c.take.result c.in-Some-take.token c.take.ensures.took c.in-Some-take.is in
    let next = moves c.args.live.now c.args.theirs c.loop-ticket.live c.loop-ticket.left c.args.next c.in-Some.ticket
    (token_of c.in-Some-take.token) c.loop-ticket.invariant here in
    subst (λ g. Moved c.args.live.now c.args.theirs c.args.next c.put.new.self g) (sym c.take.ensures.rest)
    (subst (λ f. Moved c.args.live.now c.args.theirs c.args.next f (remove c.loop-ticket.left c.in-Some.ticket))
    (sym c.in-Ok.ensures.ok) next)

pub returns-in-Err-clause-err : goal.returns-in-Err-clause-err
returns-in-Err-clause-err c =
    dropped c.args.live.now c.put.new.self c.drop_from.new.live c.args.next c.requires.low
    (λ j l. ap (λ f. get f j) c.in-Err.ensures.err ∙ c.loop-ticket.invariant.old j l) c.drop_from.ensures.below
    c.drop_from.ensures.from
