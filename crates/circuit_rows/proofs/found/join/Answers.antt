use Rattle.std.proofs.Common.{rules}
use Rattle.circuit_rows.proofs.found.join.Goals as goal

pub returns-then-left-down : goal.returns-then-left-down
returns-then-left-down c = search rules

pub returns-else-left-down : goal.returns-else-left-down
returns-else-left-down c = search rules
