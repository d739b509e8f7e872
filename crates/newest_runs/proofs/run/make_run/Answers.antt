use Rattle.newest_runs.proofs.Going.{over}
use Rattle.newest_runs.proofs.run.make_run.Goals as goal

pub returns-in-None-clause-whole : goal.returns-in-None-clause-whole
returns-in-None-clause-whole c =
    let now = c.loop-moving.moving in
    let i = c.loop-moving.invariant in
    over c.args.net.now c.requires.runs now.core now.turn now.moves i.0 c.args.budget i.1 c.in-None.is
