use Rattle.std.proofs.Common.{rules}
use Rattle.program_runs.proofs.net.is_ground.Goals as goal

pub returns-clause-typed : goal.returns-clause-typed
returns-clause-typed c = search rules

pub returns-clause-ground : goal.returns-clause-ground
returns-clause-ground c = search rules
