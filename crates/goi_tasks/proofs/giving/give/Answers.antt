use Rattle.std.proofs.Common.{rules}
use Rattle.goi_tasks.proofs.giving.give.Goals as goal

pub returns-else-text-out : goal.returns-else-text-out
returns-else-text-out c = search rules

pub returns-then-text-out : goal.returns-then-text-out
returns-then-text-out c = search rules
