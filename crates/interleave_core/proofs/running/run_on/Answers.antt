use Rattle.std.proofs.Common.{◌-◌, arith}
use Rattle.interleave_core.proofs.Turns.{leads_on, runs_on}
use Rattle.interleave_core.proofs.running.run_on.Goals as goal

pub turn-requires-clause-reached : goal.turn-requires-clause-reached
turn-requires-clause-reached c =
    let few = c.loop-made.invariant.few in
    leads_on c.args.net.now c.args.core.now c.loop-made.core c.args.ticket c.loop-made.made c.args.most
    (c.args.most - c.loop-made.made) (omega (arith, few)) c.requires.reached c.loop-made.invariant.moves

pub loop-made-preserved : goal.loop-made-preserved
loop-made-preserved c =
    let few = c.in_ok-made.ensures.few in
    let inside = c.loop-made-test.true in
    record {
      few = omega (arith, few, inside);
      moves = runs_on c.args.net.now c.args.core.now c.loop-made.core c.turn.new.core c.args.ticket c.loop-made.made
          c.in_ok-made.field-0 c.loop-made.invariant.moves c.in_ok-made.ensures.moves;
    }
