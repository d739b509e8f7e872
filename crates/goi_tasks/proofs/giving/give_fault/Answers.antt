use Rattle.std.proofs.Common.{rules}
use Rattle.goi_tasks.proofs.giving.give_fault.Goals as goal

pub returns-in-Ok : goal.returns-in-Ok
returns-in-Ok c = search rules
