use Rattle.std.proofs.Common.{rules}
use Rattle.token_pool.proofs.Counting.{counts_none}
use Rattle.token_pool.proofs.places.Places.free.Goals as goal

pub invariant_of-result : goal.invariant_of-result
invariant_of-result c = counts_none c.args.workers c.in_ok-vec.field-0.items c.ranges.workers.fits (search rules)
