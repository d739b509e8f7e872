use Rattle.batch_pool.proofs.Asked.{gives_again, stays_again}
use Rattle.batch_pool.proofs.asking.take_again.Goals as goal

pub returns-clause-ok : goal.returns-clause-ok
returns-clause-ok c =
    gives_again c.args.pools.now.items c.args.worker c.args.job c.requires.serving c.requires.holds.0 c.requires.holds.1
    c.in_ok-piece.field-0 c.in-Token.piece c.ask_job.new.pools.items c.in-Token.is c.in_ok-piece.ensures.ok

pub returns-clause-same : goal.returns-clause-same
returns-clause-same c =
    stays_again c.args.pools.now.items c.args.worker c.args.job c.requires.serving c.requires.holds.0 c.requires.holds.1
    c.in_ok-piece.field-0 c.in-Token.piece c.ask_job.new.pools.items c.in-Token.is c.in_ok-piece.ensures.ok
