use Rattle.std.proofs.Common.{◌≡◌, ◌+◌, ◌∙◌, None, Some, ap, arith, get_or, replicate, subst, take}
use Rattle.std.specs.FinMap.{get}
use Rattle.interleave_laws.specs.Maps.{run_map}
use Rattle.schedule_log.specs.KeptRuns.{MovesSeen, spread}
use Rattle.schedule_log.specs.Logs.{tickets_in_log}
use Rattle.schedule_log.proofs.Holding.{longer}
use Rattle.replay_check.specs.Replays.{fault_at}
use Rattle.replay_check.proofs.Making.{among, room, run_moved, stops_here}
use Rattle.replay_check.proofs.referee.make_moves.Goals as goal

pub run_on-requires-clause-reached : goal.run_on-requires-clause-reached
run_on-requires-clause-reached c =
    let net = c.args.net.now in
    let rs = c.args.runs.now in
    let i = c.loop-run.run-index in
    let d = c.run-item.result in
    let led = c.loop-run.invariant.led in
    let n = ap (λ (m : MovesSeen). m.count) c.run-item.is in
    let r = room net rs i d c.loop-run-test.true c.loop-run.core c.loop-run.core led c.requires.few in
    (tickets_in_log (spread (take i rs)), led, omega (arith, r, n, c.count.ensures.value))

pub overflow_add-place : goal.overflow_add-place
overflow_add-place c =
    let net = c.args.net.now in
    let rs = c.args.runs.now in
    let i = c.loop-run.run-index in
    let d = c.run-item.result in
    let led = c.loop-run.invariant.led in
    let n = ap (λ (m : MovesSeen). m.count) c.run-item.is in
    let a = among net rs i d c.loop-run-test.true c.loop-run.core c.loop-run.core led c.requires.few in
    omega (arith, a, n, c.count.ensures.value, c.in_ok-made.ensures.few, c.loop-run.invariant.place)

pub returns-then-made-count-clause-fault : goal.returns-then-made-count-clause-fault
returns-then-made-count-clause-fault c =
    let net = c.args.net.now in
    let rs = c.args.runs.now in
    let i = c.loop-run.run-index in
    let d = c.run-item.result in
    let led = c.loop-run.invariant.led in
    let n = ap (λ (m : MovesSeen). m.count) c.run-item.is in
    let t : c.ticket-ticket.result ≡ (get_or rs i d).ticket = c.ticket-ticket.ensures ∙ ap (λ (m : MovesSeen). m.ticket) c.run-item.is in
    let S = c.loop-run.core in
    let T = c.run_on.new.core in
    let made = c.in_ok-made.made in
    let moves = subst (λ t. run_map net S (replicate made t) ≡ Some T) t c.in_ok-made.ensures.moves in
    let f = c.if-made-count.true in
    let k = c.count-in-loop-run.ensures.value in
    stops_here net rs i d c.loop-run-test.true S T led made (c.loop-run.place + made) c.fault_of.result (omega (arith, f, k, n)) moves
    (subst (λ t. get T.tokens t ≡ None) t (c.in_ok-made.ensures.ends (omega (arith, f, k, c.count.ensures.value))))
    (ap (λ p. p + made) c.loop-run.invariant.place)
    (c.fault_of.ensures ∙ ap (λ t. fault_at T.answered (c.loop-run.place + made) t) t)

pub loop-run-preserved : goal.loop-run-preserved
loop-run-preserved c =
    let net = c.args.net.now in
    let rs = c.args.runs.now in
    let i = c.loop-run.run-index in
    let d = c.run-item.result in
    let led = c.loop-run.invariant.led in
    let n = ap (λ (m : MovesSeen). m.count) c.run-item.is in
    let t : c.ticket-ticket.result ≡ (get_or rs i d).ticket = c.ticket-ticket.ensures ∙ ap (λ (m : MovesSeen). m.ticket) c.run-item.is in
    let S = c.loop-run.core in
    let T = c.run_on.new.core in
    let made = c.in_ok-made.made in
    let moves = subst (λ t. run_map net S (replicate made t) ≡ Some T) t c.in_ok-made.ensures.moves in
    let f = c.if-made-count.false in
    let k = c.count-in-loop-run.ensures.value in
    let few = c.in_ok-made.ensures.few in
    let all : made ≡ (get_or rs i d).count = omega (arith, f, k, n, few, c.count.ensures.value) in
    let long = longer rs i d c.loop-run-test.true in
    record {
      place = omega (arith, long, all, c.loop-run.invariant.place);
      led = run_moved net rs i d c.loop-run-test.true S T led made all moves;
    }
