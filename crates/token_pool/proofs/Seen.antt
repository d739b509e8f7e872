-- The pool that contracts see, from the fields that the code's type keeps. The view itself asks for the name of the net's lifetime besides.
use Rattle.token_pool.specs.declared.pool.PoolState.TheInside.{Inside}
use Rattle.token_pool.specs.Pools.{Pool}
use Rattle.token_pool.specs.Codes.{pool}

abbrev pub seen : Inside → Pool
seen a = pool a.net.now a.budget a.workers a.core a.log.entries a.held a.stopped
