use Rattle.std.proofs.Common.{rules}
use Rattle.interleave_core.proofs.forking.open.Goals as goal

pub returns-in-Ok-clause-entry : goal.returns-in-Ok-clause-entry
returns-in-Ok-clause-entry c = search rules
