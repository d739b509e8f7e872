use Rattle.std.proofs.Common.{rules}
use Rattle.fork_join.proofs.forks.keep_first.Goals as goal

pub returns-clause-arrived : goal.returns-clause-arrived
returns-clause-arrived c = search rules

pub returns-clause-rest : goal.returns-clause-rest
returns-clause-rest c = search rules
