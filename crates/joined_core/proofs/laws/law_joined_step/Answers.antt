use Rattle.joined_core.proofs.Follow.{joined_step}
use Rattle.joined_core.proofs.laws.law_joined_step.Goals as goal

pub returns : goal.returns
returns c = joined_step
