use Rattle.joined_module_fits.proofs.Formed.{empty_fits}
use Rattle.joined_module_fits.proofs.laws.law_empty_fits.Goals as goal

pub returns : goal.returns
returns c = empty_fits
