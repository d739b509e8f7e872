use Rattle.move_rules.proofs.Trails.{trail_walks}
use Rattle.move_rules.proofs.laws.law_trail_walks.Goals as goal

pub returns : goal.returns
returns c = trail_walks
