use Rattle.std.proofs.Common.{rules}
use Rattle.circuit_rows.proofs.found.row_down.Goals as goal

pub returns-in-FixBox : goal.returns-in-FixBox
returns-in-FixBox c = search rules

pub returns-in-Binary : goal.returns-in-Binary
returns-in-Binary c = search rules
