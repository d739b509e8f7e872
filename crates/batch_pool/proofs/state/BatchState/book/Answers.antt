use Rattle.std.proofs.Common.{Some, None}
use Rattle.batch_pool.specs.Booking.{HoldsOtherIn}
use Rattle.batch_pool.proofs.Asked.{on_err}
use Rattle.batch_pool.proofs.Counts.{counted_booked}
use Rattle.batch_pool.proofs.Standing.{place_here, other_seen, kept_booked, books_there, books_nothing}
use Rattle.batch_pool.proofs.state.BatchState.book.Goals as goal

pub book_job-requires-clause-holds : goal.book_job-requires-clause-holds
book_job-requires-clause-holds c =
    let a = c.self.inside in
    place_here a.pools.items a.workers a.stopped a.places.items c.self.invariant.0 c.args.self.now c.self.view_is c.args.worker c.requires
    c.deref.result.now (Some c.in-Some.job) c.deref.ensures.value c.in-Some.ensures

pub returns-in_err-booked-in-Some-clause-ample : goal.returns-in_err-booked-in-Some-clause-ample
returns-in_err-booked-in-Some-clause-ample c =
    let a = c.self.inside in
    on_err c.from_residual.result (HoldsOtherIn c.args.self.now.pools c.args.worker c.args.moved)
    (other_seen a.pools.items a.workers a.stopped a.places.items c.self.invariant.0 c.args.self.now c.self.view_is c.args.worker c.requires
    c.args.moved c.in_err-booked-in-Some.ensures.ample)

pub invariant_of-self-in-Some : goal.invariant_of-self-in-Some
invariant_of-self-in-Some c =
    let a = c.self.inside in
    let held = place_here a.pools.items a.workers a.stopped a.places.items c.self.invariant.0 c.args.self.now c.self.view_is c.args.worker
    c.requires
    c.deref.result.now (Some c.in-Some.job) c.deref.ensures.value c.in-Some.ensures in
    let x = c.in_ok-booked-in-Some.ensures.ok in (
      kept_booked a.pools.items a.workers a.stopped a.places.items c.self.invariant.0 c.args.self.now c.self.view_is c.args.worker
          c.requires c.in-Some.job held.0 held.1 c.args.moved c.book_job.new.pools.items c.in_ok-booked-in-Some.booked x
          c.law_book_keeps.ensures c.forget.new.places.items c.forget.ensures,
      counted_booked a.pools.items c.book_job.new.pools.items c.in-Some.job a.passed a.spare c.min-self-inside.result
          c.book_job.new.spare x.new c.self.invariant.1 x.after_it c.min-self-inside.ensures c.in_ok-booked-in-Some.ensures.spared,
    )

pub returns-in_ok-booked-in-Some-clause-ok : goal.returns-in_ok-booked-in-Some-clause-ok
returns-in_ok-booked-in-Some-clause-ok c =
    let a = c.self.inside in
    let held = place_here a.pools.items a.workers a.stopped a.places.items c.self.invariant.0 c.args.self.now c.self.view_is c.args.worker
    c.requires
    c.deref.result.now (Some c.in-Some.job) c.deref.ensures.value c.in-Some.ensures in
    books_there a.pools.items a.workers a.stopped a.places.items c.self.invariant.0 c.args.self.now c.self.view_is c.args.worker c.requires
    c.in-Some.job held.0 held.1 c.args.moved c.book_job.new.pools.items c.in_ok-booked-in-Some.booked c.in_ok-booked-in-Some.ensures.ok

pub returns-in-None-clause-ok : goal.returns-in-None-clause-ok
returns-in-None-clause-ok c =
    let a = c.self.inside in
    let free = place_here a.pools.items a.workers a.stopped a.places.items c.self.invariant.0 c.args.self.now c.self.view_is c.args.worker
    c.requires
    c.deref.result.now None c.deref.ensures.value c.in-None.ensures in
    books_nothing a.pools.items a.workers a.stopped a.places.items c.self.invariant.0 c.args.self.now c.self.view_is c.args.worker
    c.requires c.args.moved free
