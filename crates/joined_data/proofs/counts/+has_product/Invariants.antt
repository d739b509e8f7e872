use Rattle.std.proofs.Common.{length}
use Rattle.joined_data.proofs.counts.+has_product.Given as goal

abbrev pub decreases-has_product : goal.decreases-has_product
decreases-has_product l = length l.rows.now
