use Rattle.std.proofs.Common.{ap, arith}
use Rattle.schedule_log.specs.LogsSeen.{LogSeen}
use Rattle.token_pool.proofs.Standing.{start_ready}
use Rattle.token_pool.proofs.pool.PoolState.start.Goals as goal

pub invariant_of-result : goal.invariant_of-result
invariant_of-result c =
    let room = ap (λ (l : LogSeen). l.room) c.in_ok-log.ensures.log in (
      start_ready c.args.net.now c.args.budget c.args.workers c.in_ok-core.core c.in_ok-log.log.entries c.in_ok-log.held
          c.requires.runs c.requires.limits c.in_ok-core.ensures
          (ap (λ (l : LogSeen). l.entries) c.in_ok-log.ensures.log) c.in_ok-log.ensures.held,
      omega (arith, room),
    )
