use Rattle.step_text.proofs.Worth.{told_is_meant}
use Rattle.step_text.proofs.laws.law_told_is_meant.Goals as goal

pub returns : goal.returns
returns c = told_is_meant
