use Rattle.std.proofs.Common.{◌+◌, ◌-◌, ◌*◌}
use Rattle.batch_pool.proofs.apart.+fn-work_from-join+arg2+fn-work_from-join+arg3+work_from.Given as goal

abbrev pub decreases-join+arg2 : goal.decreases-join+arg2
decreases-join+arg2 g l = 2 * (l.middle - l.from) + 1

abbrev pub decreases-join+arg3 : goal.decreases-join+arg3
decreases-join+arg3 g l = 2 * (l.to - l.middle) + 1

abbrev pub decreases-work_from : goal.decreases-work_from
decreases-work_from g l = 2 * (l.to - l.from)
