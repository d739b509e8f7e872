use Rattle.std.proofs.Common.{sym, subst}
use Rattle.batch_pool.specs.Keeping.{Spared}
use Rattle.batch_pool.proofs.Counts.{changes}
use Rattle.batch_pool.proofs.asking.ask_next.Goals as goal

pub spare_after-requires-clause-part : goal.spare_after-requires-clause-part
spare_after-requires-clause-part c =
    let x = c.in_ok-offer.ensures.ok in
    (changes c.args.pools.now.items c.ask_job.new.pools.items c.deref.result.now c.deref-2.result.now c.args.job x.old x.new
    c.args.spare.now c.spare_at-before.result c.spare_at-now.result c.requires.spared x.job x.after_it c.deref.ensures.value
    c.spare_at-before.ensures c.deref-2.ensures.value c.spare_at-now.ensures).part

pub spare_after-requires-clause-small : goal.spare_after-requires-clause-small
spare_after-requires-clause-small c =
    let x = c.in_ok-offer.ensures.ok in
    (changes c.args.pools.now.items c.ask_job.new.pools.items c.deref.result.now c.deref-2.result.now c.args.job x.old x.new
    c.args.spare.now c.spare_at-before.result c.spare_at-now.result c.requires.spared x.job x.after_it c.deref.ensures.value
    c.spare_at-before.ensures c.deref-2.ensures.value c.spare_at-now.ensures).small

pub returns-clause-spared : goal.returns-clause-spared
returns-clause-spared c =
    let x = c.in_ok-offer.ensures.ok in
    subst (Spared c.ask_job.new.pools.items) (sym c.spare_after.ensures)
    (changes c.args.pools.now.items c.ask_job.new.pools.items c.deref.result.now c.deref-2.result.now c.args.job x.old x.new
    c.args.spare.now c.spare_at-before.result c.spare_at-now.result c.requires.spared x.job x.after_it c.deref.ensures.value
    c.spare_at-before.ensures c.deref-2.ensures.value c.spare_at-now.ensures).spared
