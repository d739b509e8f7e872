use Rattle.joined_module_fits.proofs.Formed.{joined_well_formed}
use Rattle.joined_module_fits.proofs.laws.law_joined_well_formed.Goals as goal

pub returns : goal.returns
returns c = joined_well_formed
