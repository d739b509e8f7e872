use Rattle.std.proofs.Common.{◌≡◌, Some, take, subst, sym, arith}
use Rattle.std.specs.Option.{IsSome}
use Rattle.interleave_laws.specs.Maps.{step_map}
use Rattle.schedule_log.specs.declared.entry.Entry.{Entry}
use Rattle.schedule_log.specs.KeptRuns.{spread}
use Rattle.schedule_log.specs.Logs.{tickets_in_log}
use Rattle.schedule_log.proofs.Taken.{taken_few}
use Rattle.walk_text.proofs.Playing.{able_live, able_here, led_on}
use Rattle.walk_text.proofs.moves.run_to.Goals as goal

pub step-requires-clause-live : goal.step-requires-clause-live
step-requires-clause-live c =
    able_live c.args.net.now c.loop-i.core _
    (subst (λ (e : Entry). IsSome (step_map c.args.net.now c.loop-i.core e.ticket)) (sym c.move_at-entry.ensures)
    (able_here c.args.net.now (spread c.args.runs.now) c.loop-i.i c.move_at-entry.result c.loop-i.core c.requires.leads
    (omega (arith, c.loop-i-test.true, c.requires.within)) c.loop-i.invariant.led))

pub step-requires-clause-reached : goal.step-requires-clause-reached
step-requires-clause-reached c = (
  tickets_in_log (take c.loop-i.i (spread c.args.runs.now)),
  c.loop-i.invariant.led,
  taken_few (spread c.args.runs.now) c.loop-i.i (omega (arith, c.loop-i-test.true, c.requires.within)) c.requires.few,
)

pub loop-i-preserved : goal.loop-i-preserved
loop-i-preserved c = record {
  led = led_on c.args.net.now (spread c.args.runs.now) c.loop-i.i c.move_at-entry.result c.loop-i.core c.step.new.self
      (omega (arith, c.loop-i-test.true, c.requires.within)) c.loop-i.invariant.led
      (subst (λ (e : Entry). step_map c.args.net.now c.loop-i.core e.ticket ≡ Some c.step.new.self) c.move_at-entry.ensures
      c.in_ok-step.ensures.steps);
  stands = c.next_place-place.ensures;
}
