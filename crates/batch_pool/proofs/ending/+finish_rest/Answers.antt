use Rattle.std.proofs.Common.{rules}
use Rattle.batch_pool.specs.Batches.{JobFits}
use Rattle.batch_pool.proofs.Ends.{ends_more, fits_first, fit_others}
use Rattle.std.specs.Vec.Iter.{into_iter_items}
use Rattle.batch_pool.proofs.ending.+finish_rest.Goals as goal

pub returns-in_ok-push-in-len1-up : goal.returns-in_ok-push-in-len1-up
returns-in_ok-push-in-len1-up t c =
    ends_more (into_iter_items c.args.pools) (into_iter_items c.next_pool.new.pools) c.next_pool.result c.next_pool.ensures c.args.jobs.now
    c.job-item.result c.in-len1-up.len_at_least c.job-item.is c.args.workers c.in_ok-end-in-len1-up.end c.in_ok-end-in-len1-up.ensures.ends
    c.in_ok-end-in-len1-up.ensures.replays c.args.ends.now.items c.push.new.self.items c.finish_rest.new.ends.items
    c.in_ok-push-in-len1-up.ensures.items c.finish_rest.result c.finish_rest.ensures

pub finish_job-requires-clause-fits : goal.finish_job-requires-clause-fits
finish_job-requires-clause-fits t c =
    fits_first JobFits c.args.jobs.now c.job-item.result c.in-len1-up.len_at_least c.job-item.is c.requires.each

pub finish_rest-requires : goal.finish_rest-requires
finish_rest-requires t c = (search rules, (fit_others JobFits c.args.jobs.now c.requires.each, search rules))
