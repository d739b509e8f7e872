use Rattle.std.proofs.Common.{sym, ◌∙◌}
use Rattle.token_pool.proofs.Free.{begins, goes, empty, passes, finds, all_held}
use Rattle.token_pool.proofs.turns.least_free.Goals as goal

pub loop-ticket-init : goal.loop-ticket-init
loop-ticket-init c = begins c.args.core.now.tokens c.args.places.now c.in-Some.ticket c.in-Some.ensures

pub loop-ticket-preserved : goal.loop-ticket-preserved
loop-ticket-preserved c =
    goes c.args.core.now.tokens c.args.places.now c.loop-ticket.ticket c.in-Some-next_live.next c.loop-ticket.invariant
    (sym c.holds.ensures ∙ c.loop-ticket-test.true) c.in-Some-next_live.ensures

pub returns-in_default : goal.returns-in_default
returns-in_default c = empty c.args.core.now.tokens c.args.places.now c.args.core.now.next c.requires.low c.in_default.ensures

pub returns-in-None : goal.returns-in-None
returns-in-None c =
    passes c.args.core.now.tokens c.args.places.now c.args.core.now.next c.requires.low c.loop-ticket.ticket c.loop-ticket.invariant
    (sym c.holds.ensures ∙ c.loop-ticket-test.true) c.in-None.ensures

pub returns : goal.returns
returns c = finds c.args.core.now.tokens c.args.places.now c.args.core.now.next c.requires.low c.loop-ticket.ticket c.loop-ticket.invariant
    (sym c.holds.ensures ∙ c.loop-ticket-test.false)

pub returns-then-holders-live_count : goal.returns-then-holders-live_count
returns-then-holders-live_count c =
    all_held c.args.core.now.tokens c.args.places.now c.args.core.now.next c.requires.low
    (sym c.holders.ensures.count ∙ c.if-holders-live_count.true ∙ c.live_count.ensures) c.requires.counted
