use Rattle.std.proofs.Common.{◌<◌, sym, ap, ◌∙◌, subst, arith}
use Rattle.std.specs.FinMap.{get, len}
use Rattle.interleave_core.proofs.Grafted.{one_fewer, gone_other}
use Rattle.interleave_core.proofs.grafting.drop_from.Goals as goal

pub loop-ticket-smaller-in-Some : goal.loop-ticket-smaller-in-Some
loop-ticket-smaller-in-Some c =
    let less = one_fewer c.loop-ticket.live c.in-Some.ticket c.in-Some.ensures.1 in
    subst (λ f. len f < len c.loop-ticket.live) (sym c.take.ensures.rest) (omega (arith, less))

pub loop-ticket-preserved-in-Some : goal.loop-ticket-preserved-in-Some
loop-ticket-preserved-in-Some c q l =
    let above = c.in-Some.ensures.0 in
    ap (λ f. get f q) c.take.ensures.rest ∙ gone_other c.loop-ticket.live c.in-Some.ticket q (λ z. omega (arith, above, l, z))
    ∙ c.loop-ticket.invariant q l
