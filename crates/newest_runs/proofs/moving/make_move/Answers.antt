use Rattle.std.proofs.Common.{◌+◌, arith}
use Rattle.newest_runs.proofs.Going.{fires, moved_more}
use Rattle.newest_runs.proofs.moving.make_move.Goals as goal

pub returns-clause-moved : goal.returns-clause-moved
returns-clause-moved c =
    let was = c.args.moving.now in
    let stepped = c.in_ok-stepped.ensures in
    moved_more c.args.net.now c.requires.runs was.core was.turn was.moves c.requires.moved c.args.ticket c.in_ok-stepped.stepped
    c.step.new.self c.go_on.new.turn c.requires.next stepped.steps stepped.name c.in_ok-go_on.ensures (was.moves + 1) (omega arith)

pub returns-clause-fires : goal.returns-clause-fires
returns-clause-fires c =
    let was = c.args.moving.now in
    fires c.args.net.now c.requires.runs was.core was.turn was.moves c.requires.moved c.args.ticket c.requires.next
