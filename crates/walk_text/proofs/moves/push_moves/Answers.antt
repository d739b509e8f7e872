use Rattle.std.proofs.Common.{◌≡◌, ◌++◌, Some, take, subst, sym, arith}
use Rattle.std.specs.Option.{IsSome}
use Rattle.interleave_laws.specs.Maps.{seen, step_map}
use Rattle.schedule_log.specs.declared.entry.Entry.{Entry}
use Rattle.schedule_log.specs.KeptRuns.{spread}
use Rattle.schedule_log.specs.Logs.{tickets_in_log}
use Rattle.schedule_log.proofs.Taken.{taken_few}
use Rattle.walk_text.specs.Lines.{move_line}
use Rattle.walk_text.proofs.Playing.{able_here, led_on, line_on}
use Rattle.walk_text.proofs.moves.push_moves.Goals as goal

pub push_move-requires-clause-reached : goal.push_move-requires-clause-reached
push_move-requires-clause-reached c = (
  tickets_in_log (take c.loop-i.i (spread c.args.runs.now)),
  c.loop-i.invariant.led,
  taken_few (spread c.args.runs.now) c.loop-i.i (omega (arith, c.loop-i-test.true, c.requires.within)) c.requires.few,
)

pub push_move-requires-clause-able : goal.push_move-requires-clause-able
push_move-requires-clause-able c =
    subst (λ (e : Entry). IsSome (step_map c.args.net.now c.loop-i.core e.ticket)) (sym c.move_at-entry.ensures)
    (able_here c.args.net.now (spread c.args.runs.now) c.loop-i.i c.move_at-entry.result c.loop-i.core c.requires.leads
    (omega (arith, c.loop-i-test.true, c.requires.within)) c.loop-i.invariant.led)

pub loop-i-preserved : goal.loop-i-preserved
loop-i-preserved c =
    let net = c.args.net.now in
    let es = spread c.args.runs.now in
    let S = c.loop-i.core in
    let T = c.push_move.new.core in
    let is = c.move_at-entry.ensures in
    let steps = subst (λ (e : Entry). step_map net S e.ticket ≡ Some T) is c.in_ok-push_move.ensures.steps in
    let line = subst (λ (e : Entry). c.push_move.new.text.items ≡
    c.loop-i.text.items ++ move_line net (seen S) c.loop-i.i e.worker e.ticket) is c.in_ok-push_move.ensures.line in
    record {
      shown = c.in_ok-push_move.ensures.shown;
      stands = c.next_place-place.ensures;
      led = led_on net es c.loop-i.i c.move_at-entry.result S T (omega (arith, c.loop-i-test.true, c.requires.within))
          c.loop-i.invariant.led steps;
      text = line_on net es c.loop-i.i c.args.to c.move_at-entry.result S T c.loop-i.text.items c.push_move.new.text.items _
          c.loop-i-test.true c.requires.within steps line c.loop-i.invariant.text;
    }
