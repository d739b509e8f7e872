use Rattle.program_runs.proofs.Telling.{moves_tell, runs_tell}
use Rattle.program_runs.proofs.laws.law_tells.Goals as goal

pub returns-clause-runs : goal.returns-clause-runs
returns-clause-runs c = runs_tell c.law_finished.ensures.programs

pub returns-clause-moves : goal.returns-clause-moves
returns-clause-moves c = moves_tell c.law_finished.ensures.program_maps
