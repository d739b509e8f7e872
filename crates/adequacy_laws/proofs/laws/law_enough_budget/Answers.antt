use Rattle.adequacy_laws.proofs.Finishing.{enough_budget}
use Rattle.adequacy_laws.proofs.laws.law_enough_budget.Goals as goal

pub returns : goal.returns
returns c m h = enough_budget m h (c.law_built_sound.ensures m h)
