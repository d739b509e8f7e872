use Rattle.move_rules.proofs.Trails.{one_walk}
use Rattle.move_rules.proofs.laws.law_one_walk.Goals as goal

pub returns : goal.returns
returns c = one_walk
