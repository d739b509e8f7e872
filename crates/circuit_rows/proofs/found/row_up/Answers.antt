use Rattle.std.proofs.Common.{rules}
use Rattle.circuit_rows.proofs.found.row_up.Goals as goal

pub returns-in-Lam : goal.returns-in-Lam
returns-in-Lam c = search rules
