use Rattle.std.proofs.Common.{rules}
use Rattle.token_pool.proofs.bench.PoolStateBench.work.Goals as goal

pub returns : goal.returns
returns c = search rules
