use Rattle.std.proofs.Common.{arith}
use Rattle.branch_laws.proofs.Mapped.{map_able, map_fresh, map_tickets}
use Rattle.branch_runs.proofs.Grown.{acts_on}
use Rattle.branch_runs.proofs.growing.act_on.Goals as goal

pub step_own-requires-clause-able : goal.step_own-requires-clause-able
step_own-requires-clause-able c y e own =
    let (x, o, g) = c.requires.grown in
    map_able c.args.net.now c.requires.runs x o c.args.log.now c.args.core.now g.branched c.args.ticket y e own

pub step_own-requires-clause-fresh : goal.step_own-requires-clause-fresh
step_own-requires-clause-fresh c =
    let (x, o, g) = c.requires.grown in
    map_fresh c.args.net.now c.requires.runs.sound x o c.args.log.now c.args.core.now g.branched

pub step_own-requires-clause-room : goal.step_own-requires-clause-room
step_own-requires-clause-room c =
    let (x, o, g) = c.requires.grown in
    let few = map_tickets c.args.net.now x c.args.log.now c.args.core.now g.branched.0 in
    let room = c.requires.room in
    omega (arith, few, room)

pub returns-in_ok-add-clause-grows : goal.returns-in_ok-add-clause-grows
returns-in_ok-add-clause-grows c =
    acts_on c.args.net.now c.requires.runs.sound c.args.log.now c.add.new.self c.args.core.now c.step_own.new.self c.args.ticket
    c.in_ok-moved.moved c.requires.newest c.if-moved.true c.in_ok-moved.ensures.ok c.in_ok-add.ensures.ok
