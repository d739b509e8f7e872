use Rattle.newest_core.proofs.Processor.{follows, forks_nest, all_closed}
use Rattle.newest_core.proofs.laws.law_newest.Goals as goal

pub returns-clause-follows : goal.returns-clause-follows
returns-clause-follows c = follows

pub returns-clause-nest : goal.returns-clause-nest
returns-clause-nest c = forks_nest

pub returns-clause-closed : goal.returns-clause-closed
returns-clause-closed c = all_closed
