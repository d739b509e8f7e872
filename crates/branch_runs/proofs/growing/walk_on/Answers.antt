use Rattle.fork_join.proofs.Nesting.{on_ok}
use Rattle.branch_runs.proofs.Grown.{walks_on, walk_keeps_newest}
use Rattle.branch_runs.proofs.growing.walk_on.Goals as goal

pub returns-clause-grows : goal.returns-clause-grows
returns-clause-grows c =
    on_ok c.add.result c.add.ensures.ok (walks_on c.args.net.now c.requires.runs.sound c.args.log.now c.add.new.self c.args.core.now
    c.walk.new.self c.args.ticket _ c.in_ok-made.made c.requires.newest c.in_ok-made.ensures)

pub returns-clause-newest : goal.returns-clause-newest
returns-clause-newest c =
    on_ok c.add.result c.add.ensures.ok (λ l. walk_keeps_newest c.args.net.now c.args.core.now c.walk.new.self c.args.ticket _
    c.in_ok-made.made c.requires.newest c.in_ok-made.ensures)
