use Rattle.std.proofs.Common.{rules}
use Rattle.branch_runs.proofs.grafting.has.Goals as goal

pub returns-in-Some : goal.returns-in-Some
returns-in-Some c = search rules
