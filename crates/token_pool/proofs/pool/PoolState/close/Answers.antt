use Rattle.std.proofs.Common.{ap, arith}
use Rattle.token_pool.proofs.Seen.{seen}
use Rattle.token_pool.specs.declared.ending.Ended.{Ended}
use Rattle.token_pool.specs.Pools.{Pool}
use Rattle.token_pool.proofs.Finishing.{finishes, replays}
use Rattle.token_pool.proofs.Standing.{number_small}
use Rattle.token_pool.proofs.pool.PoolState.close.Goals as goal

pub play_on-done-requires-clause-finisher : goal.play_on-done-requires-clause-finisher
play_on-done-requires-clause-finisher c =
    number_small (seen c.self.inside) c.args.self c.self.invariant.0 c.self.view_is c.self.inside.workers
    (let h = ap (λ (P : Pool). P.workers) c.self.view_is in omega (arith, h))

pub returns-clause-finishes : goal.returns-clause-finishes
returns-clause-finishes c =
    let e : Ended = record { answer = c.answer-answer.result; log = c.play_on-done.new.log } in
    finishes (seen c.self.inside) c.args.self c.self.view_is e c.play_on-done.new.core c.in_ok-done.ensures.leads
    c.answer-answer.ensures c.in_ok-done.ensures.moves

pub returns-clause-replays : goal.returns-clause-replays
returns-clause-replays c =
    let p = seen c.self.inside in
    let e : Ended = record { answer = c.answer-answer.result; log = c.play_on-done.new.log } in
    replays p c.args.self c.self.view_is c.self.invariant.0 e
    (finishes p c.args.self c.self.view_is e c.play_on-done.new.core c.in_ok-done.ensures.leads c.answer-answer.ensures
    c.in_ok-done.ensures.moves)
