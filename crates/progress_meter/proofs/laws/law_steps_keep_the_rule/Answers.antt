use Rattle.progress_meter.proofs.Steps.{steps_keep}
use Rattle.progress_meter.proofs.laws.law_steps_keep_the_rule.Goals as goal

pub returns : goal.returns
returns c = steps_keep
