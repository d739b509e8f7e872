use Rattle.walk_text.proofs.Ending.{answer_ends}
use Rattle.walk_text.proofs.laws.law_walk_ends.Goals as goal

pub returns : goal.returns
returns c = answer_ends
