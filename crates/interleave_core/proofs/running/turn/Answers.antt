use Rattle.std.proofs.Common.{arith}
use Rattle.interleave_core.proofs.Turns.{leads_on, may_step, one_step, runs_on, walk_live, walk_runs}
use Rattle.interleave_core.proofs.running.turn.Goals as goal

pub returns-then-made-most-clause-moves : goal.returns-then-made-most-clause-moves
returns-then-made-most-clause-moves c =
    walk_runs c.args.net.now c.args.core.now c.walk.new.self c.args.ticket c.args.most c.in_ok-made.made c.in_ok-made.ensures

pub step-requires-clause-live : goal.step-requires-clause-live
step-requires-clause-live c =
    walk_live c.args.net.now c.args.core.now c.walk.new.self c.args.ticket c.args.most c.in_ok-made.made c.in_ok-made.ensures

pub step-requires-clause-reached : goal.step-requires-clause-reached
step-requires-clause-reached c =
    let few = c.in_ok-made.ensures.few in
    let f = c.if-made-most.false in
    may_step c.args.net.now c.walk.new.self
    (leads_on c.args.net.now c.args.core.now c.walk.new.self c.args.ticket c.in_ok-made.made c.args.most 1 (omega (arith, few, f))
    c.requires.reached
    (walk_runs c.args.net.now c.args.core.now c.walk.new.self c.args.ticket c.args.most c.in_ok-made.made c.in_ok-made.ensures))

pub returns-clause-moves : goal.returns-clause-moves
returns-clause-moves c =
    runs_on c.args.net.now c.args.core.now c.walk.new.self c.step.new.self c.args.ticket c.in_ok-made.made 1
    (walk_runs c.args.net.now c.args.core.now c.walk.new.self c.args.ticket c.args.most c.in_ok-made.made c.in_ok-made.ensures)
    (one_step c.args.net.now c.walk.new.self c.step.new.self c.args.ticket c.in_ok-step.ensures.steps)
