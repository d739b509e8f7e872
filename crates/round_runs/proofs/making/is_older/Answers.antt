use Rattle.std.proofs.Common.{rules}
use Rattle.round_runs.proofs.making.is_older.Goals as goal

pub returns-clause-alone : goal.returns-clause-alone
returns-clause-alone c = search rules
