use Rattle.token_pool.proofs.Seen.{seen}
use Rattle.token_pool.proofs.Moving.{stop_keeps}
use Rattle.token_pool.proofs.pool.PoolState.stop.Goals as goal

pub invariant_of-self : goal.invariant_of-self
invariant_of-self c = (
  stop_keeps (seen c.self.inside) c.self.invariant.0,
  c.self.invariant.1,
)
