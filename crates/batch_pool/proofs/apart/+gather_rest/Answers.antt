use Rattle.std.specs.Vec.Iter.{into_iter_items}
use Rattle.batch_pool.specs.Batches.{JobFits}
use Rattle.batch_pool.proofs.Ends.{fits_first}
use Rattle.batch_pool.proofs.Whole.{gathered_more}
use Rattle.batch_pool.proofs.apart.+gather_rest.Goals as goal

pub returns-in_ok-push-in-len1-up : goal.returns-in_ok-push-in-len1-up
returns-in_ok-push-in-len1-up t c =
    gathered_more (into_iter_items c.args.places) (into_iter_items c.next_place.new.places) c.next_place.result c.next_place.ensures
    c.args.jobs.now c.job-item.result c.in-len1-up.len_at_least c.job-item.is c.in_ok-end-in-len1-up.end c.in_ok-end-in-len1-up.ensures
    c.args.ends.now.items c.push.new.self.items c.gather_rest.new.ends.items c.in_ok-push-in-len1-up.ensures.items c.gather_rest.result
    c.gather_rest.ensures

pub end_of-requires : goal.end_of-requires
end_of-requires t c = fits_first JobFits c.args.jobs.now c.job-item.result c.in-len1-up.len_at_least c.job-item.is c.requires
