use Rattle.std.proofs.Common.{◌≡◌}
use Rattle.batch_pool.specs.Apart.{with_ends}
use Rattle.batch_pool.proofs.apart.put_all.Given as goal

abbrev pub invariant-loop-ran : goal.invariant-loop-ran
invariant-loop-ran l = with_ends l.rans.items l.places.items ≡ with_ends l.fn.rans.items l.fn.places.items

abbrev pub decreases-loop-ran : goal.decreases-loop-ran
decreases-loop-ran l = goal.left-loop-ran l
