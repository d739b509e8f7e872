use Rattle.std.proofs.Common.{length, refl}
use Rattle.std.proofs.lemmas.Option.{slice_get_read}
use Rattle.batch_pool.specs.Asking.{HasTicket}
use Rattle.batch_pool.proofs.Asked.{on_err}
use Rattle.batch_pool.proofs.asking.ask_job.Goals as goal

pub returns-in_err-offer-clause-ample : goal.returns-in_err-offer-clause-ample
returns-in_err-offer-clause-ample c =
    let pools = c.args.pools.now.items in
    on_err c.from_residual.result (HasTicket pools c.args.worker) (
      c.args.job,
      c.index_mut.result.now,
      slice_get_read pools (length pools) c.args.job c.index_mut.result.now refl c.requires.within c.index_mut.ensures.value,
      c.in_err-offer.ensures.ample,
    )

pub returns-clause-ok : goal.returns-clause-ok
returns-clause-ok c =
    let pools = c.args.pools.now.items in
    record {
      old = c.index_mut.result.now;
      new = c.ask.new.pool;
      job = slice_get_read pools (length pools) c.args.job c.index_mut.result.now refl c.requires.within c.index_mut.ensures.value;
      offers = c.in_ok-offer.ensures.ok;
      after_it = refl;
    }
