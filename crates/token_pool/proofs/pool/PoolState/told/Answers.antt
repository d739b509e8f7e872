use Rattle.token_pool.proofs.Standing.{all_counted, low}
use Rattle.token_pool.proofs.Seen.{seen}
use Rattle.token_pool.proofs.pool.PoolState.told.Goals as goal

pub next_line-requires-clause-low : goal.next_line-requires-clause-low
next_line-requires-clause-low c = low (seen c.self.inside) c.self.invariant.0

pub next_line-requires-clause-counted : goal.next_line-requires-clause-counted
next_line-requires-clause-counted c = all_counted (seen c.self.inside) c.self.invariant.0
