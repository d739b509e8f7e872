use Rattle.joined_found.proofs.Fits.{fields_fit}
use Rattle.joined_found.proofs.laws.law_fields_fit.Goals as goal

pub returns : goal.returns
returns c = fields_fit
