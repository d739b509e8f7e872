use Rattle.step_text.proofs.Worth.{none_is_limit}
use Rattle.step_text.proofs.laws.law_none_is_limit.Goals as goal

pub returns : goal.returns
returns c = none_is_limit
