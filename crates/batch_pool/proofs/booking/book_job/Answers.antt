use Rattle.std.proofs.Common.{◌∙◌, length, set, refl, sym, ap, subst, arith, length-set}
use Rattle.std.proofs.lemmas.Option.{slice_get_read, slice_get_within}
use Rattle.batch_pool.specs.Booking.{HoldsOtherIn}
use Rattle.batch_pool.specs.Keeping.{Spared}
use Rattle.batch_pool.proofs.Asked.{on_err}
use Rattle.batch_pool.proofs.Counts.{changes}
use Rattle.batch_pool.proofs.booking.book_job.Goals as goal

pub returns-in_err-booked-clause-ample : goal.returns-in_err-booked-clause-ample
returns-in_err-booked-clause-ample c =
    let pools = c.args.pools.now.items in
    let holds = c.requires.holds.1 in
    on_err c.from_residual.result (HoldsOtherIn pools c.args.worker c.args.moved) (
      c.args.job,
      c.index_mut.result.now,
      slice_get_read pools (length pools) c.args.job c.index_mut.result.now refl
          (slice_get_within pools c.args.job holds.0 holds.1) c.index_mut.ensures.value,
      c.in_err-booked.ensures.ample,
    )

pub returns-clause-ok : goal.returns-clause-ok
returns-clause-ok c =
    let pools = c.args.pools.now.items in
    let holds = c.requires.holds.1 in
    record {
      old = c.index_mut.result.now;
      new = c.book.new.self;
      job = slice_get_read pools (length pools) c.args.job c.index_mut.result.now refl
          (slice_get_within pools c.args.job holds.0 holds.1) c.index_mut.ensures.value;
      booked = c.in_ok-booked.ensures.ok;
      after_it = refl;
    }

pub spare_after-requires-clause-part : goal.spare_after-requires-clause-part
spare_after-requires-clause-part c =
    let pools = c.args.pools.now.items in
    let holds = c.requires.holds.1 in
    let at = slice_get_read pools (length pools) c.args.job c.index_mut.result.now refl
    (slice_get_within pools c.args.job holds.0 holds.1) c.index_mut.ensures.value in
    (changes pools (set pools c.args.job c.book.new.self) c.deref.result.now c.deref-2.result.now c.args.job c.index_mut.result.now
    c.book.new.self c.args.spare.now c.spare_at-before.result c.spare_at-now.result c.requires.spared at refl c.deref.ensures.value
    c.spare_at-before.ensures c.deref-2.ensures.value c.spare_at-now.ensures).part

pub spare_after-requires-clause-small : goal.spare_after-requires-clause-small
spare_after-requires-clause-small c =
    let pools = c.args.pools.now.items in
    let holds = c.requires.holds.1 in
    let at = slice_get_read pools (length pools) c.args.job c.index_mut.result.now refl
    (slice_get_within pools c.args.job holds.0 holds.1) c.index_mut.ensures.value in
    (changes pools (set pools c.args.job c.book.new.self) c.deref.result.now c.deref-2.result.now c.args.job c.index_mut.result.now
    c.book.new.self c.args.spare.now c.spare_at-before.result c.spare_at-now.result c.requires.spared at refl c.deref.ensures.value
    c.spare_at-before.ensures c.deref-2.ensures.value c.spare_at-now.ensures).small

pub returns-clause-spared : goal.returns-clause-spared
returns-clause-spared c =
    let pools = c.args.pools.now.items in
    let holds = c.requires.holds.1 in
    let at = slice_get_read pools (length pools) c.args.job c.index_mut.result.now refl
    (slice_get_within pools c.args.job holds.0 holds.1) c.index_mut.ensures.value in
    subst (Spared (set pools c.args.job c.book.new.self)) (sym c.spare_after.ensures)
    (changes pools (set pools c.args.job c.book.new.self) c.deref.result.now c.deref-2.result.now c.args.job c.index_mut.result.now
    c.book.new.self c.args.spare.now c.spare_at-before.result c.spare_at-now.result c.requires.spared at refl c.deref.ensures.value
    c.spare_at-before.ensures c.deref-2.ensures.value c.spare_at-now.ensures).spared

pub spare_at-before-requires : goal.spare_at-before-requires
spare_at-before-requires c =
    let holds = c.requires.holds.1 in
    omega (arith, ap length c.deref.ensures.value, slice_get_within c.args.pools.now.items c.args.job holds.0 holds.1)

pub book-requires : goal.book-requires
book-requires c =
    let pools = c.args.pools.now.items in
    let holds = c.requires.holds.1 in
    (c.requires.serving c.args.job c.index_mut.result.now (slice_get_read pools (length pools) c.args.job c.index_mut.result.now refl
    (slice_get_within pools c.args.job holds.0 holds.1) c.index_mut.ensures.value)).0

pub spare_at-now-requires : goal.spare_at-now-requires
spare_at-now-requires c =
    let pools = c.args.pools.now.items in
    let holds = c.requires.holds.1 in
    omega (
      arith,
      ap length c.deref-2.ensures.value ∙ length-set pools c.args.job c.book.new.self,
      slice_get_within pools c.args.job holds.0 holds.1,
    )
