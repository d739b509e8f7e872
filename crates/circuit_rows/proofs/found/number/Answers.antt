use Rattle.std.proofs.Common.{rules}
use Rattle.circuit_rows.proofs.found.number.Goals as goal

pub returns-then-channel : goal.returns-then-channel
returns-then-channel c = search rules
