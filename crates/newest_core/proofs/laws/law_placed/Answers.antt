use Rattle.newest_core.proofs.Typed.{moves_keep}
use Rattle.newest_core.proofs.Placed.{run_placed}
use Rattle.newest_core.proofs.laws.law_placed.Goals as goal

pub returns-clause-kept : goal.returns-clause-kept
returns-clause-kept c = moves_keep

pub returns-clause-placed : goal.returns-clause-placed
returns-clause-placed c = run_placed
