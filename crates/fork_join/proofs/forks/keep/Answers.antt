use Rattle.std.proofs.Common.{rules}
use Rattle.fork_join.proofs.forks.keep.Goals as goal

pub returns-in-Nothing-clause-rest : goal.returns-in-Nothing-clause-rest
returns-in-Nothing-clause-rest c = search rules
