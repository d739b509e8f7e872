use Rattle.std.proofs.Common.{sym, ap, arith}
use Rattle.schedule_log.specs.LogsSeen.{LogSeen}
use Rattle.token_pool.proofs.Seen.{seen}
use Rattle.token_pool.proofs.Standing.{still_reached, fits, let_go_small, number_small, still_good, booked_as}
use Rattle.token_pool.proofs.pool.PoolState.book.Goals as goal

pub play-requires-clause-reached : goal.play-requires-clause-reached
play-requires-clause-reached c =
    let owned = sym c.in-Some.ensures in
    still_reached (seen c.self.inside) c.self.invariant.0 c.args.worker c.in-Some.held owned

pub write_down-requires-clause-worker : goal.write_down-requires-clause-worker
write_down-requires-clause-worker c =
    number_small (seen c.self.inside) c.args.self.now c.self.invariant.0 c.self.view_is c.args.worker
    (let u = c.requires in omega (arith, u))

pub write_down-requires-clause-room : goal.write_down-requires-clause-room
write_down-requires-clause-room c =
    let owned = sym c.in-Some.ensures in
    let f = fits (seen c.self.inside) c.self.invariant.0 c.args.worker c.in-Some.held owned c.in_ok-count.count
    c.in_ok-count.ensures.few.1 in
    let r = c.self.invariant.1 in
    omega (arith, f, r)

pub invariant_of-self-2 : goal.invariant_of-self-2
invariant_of-self-2 c =
    let owned = sym c.in-Some.ensures in
    let few = c.in_ok-count.ensures.few in
    let room = ap (λ (g : LogSeen). g.room) c.write_down.ensures in
    let r = c.self.invariant.1 in (
      still_good (seen c.self.inside) c.self.invariant.0 c.args.worker c.in-Some.held owned c.in_ok-count.count c.play.new.core
          c.write_down.new.log.entries c.let_go.new.self c.in_ok-count.ensures.steps
          (ap (λ (g : LogSeen). g.entries) c.write_down.ensures) c.let_go.ensures c.args.self.now c.self.view_is c.requires few.0 few.1,
      omega (arith, r, room),
    )

pub returns-clause-ok : goal.returns-clause-ok
returns-clause-ok c =
    let owned = sym c.in-Some.ensures in
    booked_as (seen c.self.inside) c.self.invariant.0 c.args.worker c.in-Some.held owned c.in_ok-count.count c.play.new.core
    c.write_down.new.log.entries c.let_go.new.self c.in_ok-count.ensures.steps
    (ap (λ (g : LogSeen). g.entries) c.write_down.ensures) c.let_go.ensures c.args.self.now c.args.moved c.len-done.result
    c.self.view_is c.len-done.ensures c.in_ok-count.ensures.moves

pub let_go-requires-clause-small : goal.let_go-requires-clause-small
let_go-requires-clause-small c =
    let owned = sym c.in-Some.ensures in
    let_go_small (seen c.self.inside) c.self.invariant.0 c.args.worker c.in-Some.held owned
