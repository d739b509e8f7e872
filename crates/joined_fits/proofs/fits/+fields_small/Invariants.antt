use Rattle.std.proofs.Common.{length}
use Rattle.joined_fits.proofs.fits.+fields_small.Given as goal

abbrev pub decreases-fields_small : goal.decreases-fields_small
decreases-fields_small l = length l.fields.now
