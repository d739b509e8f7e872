use Rattle.std.proofs.Common.{◌≤◌, ◌++◌, length, sym, ap, ◌∙◌, subst, arith}
use Rattle.schedule_log.specs.Logs.{by}
use Rattle.schedule_log.specs.LogsSeen.{LogSeen}
use Rattle.token_pool.proofs.Seen.{seen}
use Rattle.token_pool.specs.Branches.{all_made}
use Rattle.token_pool.proofs.Standing.{fits, holds, let_go_small, number_small}
use Rattle.token_pool.proofs.Branching.{is_branch, branch_good, branch_booked, has_room}
use Rattle.token_pool.proofs.pool.PoolState.book_branch.Goals as goal

pub play_branch-requires-clause-room : goal.play_branch-requires-clause-room
play_branch-requires-clause-room g c =
    let p = seen c.self.inside in
    has_room p c.args.worker c.in-Some.held c.self.invariant.0
    (holds p c.self.invariant.0 c.args.worker c.in-Some.held (sym c.in-Some.ensures))

pub write_made-requires-clause-worker : goal.write_made-requires-clause-worker
write_made-requires-clause-worker g c =
    number_small (seen c.self.inside) c.args.self.now c.self.invariant.0 c.self.view_is c.args.worker
    (let u = c.requires.place in omega (arith, u))

pub write_made-requires-clause-room : goal.write_made-requires-clause-room
write_made-requires-clause-room g c =
    let tickets = all_made c.in-Some.held.ticket c.next_ticket-next.result c.in_ok-made.made.own c.in_ok-made.made.last in
    let few = subst (λ n. length (all_made c.in-Some.held.ticket n c.in_ok-made.made.own c.in_ok-made.made.last) ≤ c.in-Some.held.allowance)
    (sym c.next_ticket-next.ensures) c.in_ok-made.ensures.few in
    let f = fits (seen c.self.inside) c.self.invariant.0 c.args.worker c.in-Some.held (sym c.in-Some.ensures) (length tickets) few in
    let r = c.self.invariant.1 in
    omega (arith, f, r)

pub let_go-requires-clause-small : goal.let_go-requires-clause-small
let_go-requires-clause-small g c =
    let_go_small (seen c.self.inside) c.self.invariant.0 c.args.worker c.in-Some.held (sym c.in-Some.ensures)

pub invariant_of-self-2 : goal.invariant_of-self-2
invariant_of-self-2 g c =
    let p = seen c.self.inside in
    let i = c.in-Some.held.ticket in
    let made = c.in_ok-made.made in
    let room = ap (λ (l : LogSeen). l.room) c.write_made.ensures in
    let r = c.self.invariant.1 in (
      branch_good p c.self.invariant.0 c.args.worker c.in-Some.held
          (holds p c.self.invariant.0 c.args.worker c.in-Some.held (sym c.in-Some.ensures)) c.args.branch
          (is_branch p c.args.self.now g.N.OnNet.net c.self.view_is c.requires.named _ c.args.branch c.branch.view_is c.branch.invariant)
          (all_made i c.self.inside.core.next made.own made.last) c.in_ok-made.ensures.moves c.play_branch.new.core
          c.write_made.new.log.entries c.let_go.new.self c.in_ok-made.ensures.steps
          (ap (λ (l : LogSeen). l.entries) c.write_made.ensures
          ∙ ap (λ n. c.self.inside.log.entries ++ by c.args.worker (all_made i n made.own made.last)) c.next_ticket-next.ensures)
          c.let_go.ensures c.args.self.now c.self.view_is c.requires.place,
      omega (arith, r, room),
    )

pub returns-clause-ok : goal.returns-clause-ok
returns-clause-ok g c =
    let p = seen c.self.inside in
    let i = c.in-Some.held.ticket in
    let made = c.in_ok-made.made in
    branch_booked p c.self.invariant.0 c.args.worker c.in-Some.held
    (holds p c.self.invariant.0 c.args.worker c.in-Some.held (sym c.in-Some.ensures)) c.args.branch
    (is_branch p c.args.self.now g.N.OnNet.net c.self.view_is c.requires.named _ c.args.branch c.branch.view_is c.branch.invariant)
    (all_made i c.self.inside.core.next made.own made.last) c.in_ok-made.ensures.moves c.play_branch.new.core c.write_made.new.log.entries
    c.let_go.new.self c.in_ok-made.ensures.steps
    (ap (λ (l : LogSeen). l.entries) c.write_made.ensures
    ∙ ap (λ n. c.self.inside.log.entries ++ by c.args.worker (all_made i n made.own made.last)) c.next_ticket-next.ensures)
    c.let_go.ensures c.args.self.now c.len-done.result c.self.view_is c.len-done.ensures
