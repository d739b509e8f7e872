use Rattle.std.proofs.Common.{rules}
use Rattle.fork_join.proofs.forks.kept_value.Goals as goal

pub returns-in-Left : goal.returns-in-Left
returns-in-Left c = search rules
