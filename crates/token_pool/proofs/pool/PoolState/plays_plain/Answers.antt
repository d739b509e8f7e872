use Rattle.std.proofs.Common.{rules}
use Rattle.token_pool.proofs.pool.PoolState.plays_plain.Goals as goal

pub returns-else-self-eq1 : goal.returns-else-self-eq1
returns-else-self-eq1 c = search rules
