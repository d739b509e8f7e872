use Rattle.std.proofs.Common.{Some, None}
use Rattle.batch_pool.specs.Asking.{HasTicket}
use Rattle.batch_pool.proofs.Asked.{on_err}
use Rattle.batch_pool.proofs.Standing.{place_here, ticket_seen, handed_again, takes_first, kept_taken}
use Rattle.batch_pool.proofs.state.BatchState.take.Goals as goal

pub take_again-requires-clause-holds : goal.take_again-requires-clause-holds
take_again-requires-clause-holds c =
    let a = c.self.inside in
    place_here a.pools.items a.workers a.stopped a.places.items c.self.invariant.0 c.args.self.now c.self.view_is c.args.worker c.requires
    c.deref.result.now (Some c.in-Some.job) c.deref.ensures.value c.in-Some.ensures

pub returns-in_err-piece-in-Some-clause-ample : goal.returns-in_err-piece-in-Some-clause-ample
returns-in_err-piece-in-Some-clause-ample c =
    let a = c.self.inside in
    on_err c.from_residual.result (HasTicket c.args.self.now.pools c.args.worker)
    (ticket_seen a.pools.items a.workers a.stopped a.places.items c.self.invariant.0 c.args.self.now c.self.view_is c.args.worker c.requires
    c.in_err-piece-in-Some.ensures.ample)

pub take_first-requires-clause-free : goal.take_first-requires-clause-free
take_first-requires-clause-free c =
    let a = c.self.inside in
    place_here a.pools.items a.workers a.stopped a.places.items c.self.invariant.0 c.args.self.now c.self.view_is c.args.worker c.requires
    c.deref.result.now None c.deref.ensures.value c.in-None.ensures

pub returns-in_err-taken-in-None-clause-ample : goal.returns-in_err-taken-in-None-clause-ample
returns-in_err-taken-in-None-clause-ample c =
    let a = c.self.inside in
    on_err c.from_residual-in_err-taken-in-None.result (HasTicket c.args.self.now.pools c.args.worker)
    (ticket_seen a.pools.items a.workers a.stopped a.places.items c.self.invariant.0 c.args.self.now c.self.view_is c.args.worker c.requires
    c.in_err-taken-in-None.ensures.ample)

pub invariant_of-self-in-None : goal.invariant_of-self-in-None
invariant_of-self-in-None c =
    let a = c.self.inside in
    let free = place_here a.pools.items a.workers a.stopped a.places.items c.self.invariant.0 c.args.self.now c.self.view_is c.args.worker
    c.requires
    c.deref.result.now None c.deref.ensures.value c.in-None.ensures in (
      kept_taken a.pools.items a.workers a.stopped a.places.items c.self.invariant.0 c.args.self.now c.self.view_is c.args.worker c.requires
          free c.law_take_keeps.ensures.good c.law_take_keeps.ensures.held c.in_ok-taken-in-None.taken c.take_first.new.pools.items
          c.remember.new.places.items c.in_ok-taken-in-None.ensures.ok c.remember.ensures,
      c.in_ok-taken-in-None.ensures.counted,
    )

pub returns-in_ok-piece-in-Some-clause-ok : goal.returns-in_ok-piece-in-Some-clause-ok
returns-in_ok-piece-in-Some-clause-ok c =
    let a = c.self.inside in
    handed_again a.pools.items a.workers a.stopped a.places.items c.self.invariant.0 c.args.self.now c.self.view_is c.args.worker c.requires
    c.if-self.false c.in-Some.job c.in_ok-piece-in-Some.piece c.take_again.new.pools.items c.in_ok-piece-in-Some.ensures.ok
    c.take_again.ensures.same

pub returns-in_ok-taken-in-None-clause-ok : goal.returns-in_ok-taken-in-None-clause-ok
returns-in_ok-taken-in-None-clause-ok c =
    let a = c.self.inside in
    let free = place_here a.pools.items a.workers a.stopped a.places.items c.self.invariant.0 c.args.self.now c.self.view_is c.args.worker
    c.requires
    c.deref.result.now None c.deref.ensures.value c.in-None.ensures in
    takes_first a.pools.items a.workers a.stopped a.places.items c.self.invariant.0 c.args.self.now c.self.view_is c.args.worker c.requires
    c.if-self.false free c.in_ok-taken-in-None.taken c.take_first.new.pools.items c.in_ok-taken-in-None.ensures.ok
