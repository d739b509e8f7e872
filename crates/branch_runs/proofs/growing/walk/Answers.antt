use Rattle.fork_join.proofs.Nesting.{on_ok}
use Rattle.branch_runs.proofs.Grown.{first_live, walks_alone}
use Rattle.branch_runs.proofs.growing.walk.Goals as goal

pub walk-requires : goal.walk-requires
walk-requires c = record { live = let (x, e) = c.requires.begins in first_live x c.args.core.now e }

pub returns : goal.returns
returns c x e =
    on_ok c.add.result c.add.ensures.ok (walks_alone c.args.net.now x c.args.most c.in_ok-made.made c.args.core.now c.walk.new.self
    c.args.log.now c.add.new.self e c.in_ok-made.ensures c.requires.empty)
