use Rattle.std.proofs.Common.{rules}
use Rattle.fork_join.proofs.adding.put_one.Goals as goal

pub returns-clause-ok : goal.returns-clause-ok
returns-clause-ok c = search rules
