use Rattle.std.proofs.Common.{rules}
use Rattle.circuit_calls.proofs.bench.push_value.Goals as goal

pub returns-in-Number : goal.returns-in-Number
returns-in-Number c = search rules
