use Rattle.move_rules.proofs.Facing.{move_faced}
use Rattle.move_rules.proofs.laws.law_faced_move.Goals as goal

pub returns : goal.returns
returns c = move_faced
