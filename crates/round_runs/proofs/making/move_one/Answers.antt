use Rattle.std.proofs.Common.{rules}
use Rattle.round_runs.proofs.making.move_one.Goals as goal

pub returns-clause-log : goal.returns-clause-log
returns-clause-log c = search rules
