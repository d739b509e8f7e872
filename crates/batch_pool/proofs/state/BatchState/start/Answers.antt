use Rattle.batch_pool.proofs.Counts.{start_counted}
use Rattle.batch_pool.proofs.Standing.{start_kept}
use Rattle.batch_pool.proofs.state.BatchState.start.Goals as goal

pub invariant_of-result : goal.invariant_of-result
invariant_of-result c = (
  start_kept c.law_start_good.ensures c.args.jobs.now c.args.workers c.requires c.in_ok-pools.pools.items c.in_ok-places.places.items
      c.in_ok-pools.ensures c.in_ok-places.ensures,
  start_counted c.in_ok-pools.pools.items c.deref.result.now c.spare_of-spare.result c.deref.ensures.value c.spare_of-spare.ensures,
)
