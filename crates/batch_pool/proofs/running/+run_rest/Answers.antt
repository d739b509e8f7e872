use Rattle.batch_pool.proofs.Ends.{runs_more}
use Rattle.batch_pool.proofs.running.+run_rest.Goals as goal

pub returns-in_ok-push-in-len1-up : goal.returns-in_ok-push-in-len1-up
returns-in_ok-push-in-len1-up g t c =
    runs_more c.args.jobs.now c.job-item.result c.in-len1-up.len_at_least c.job-item.is c.args.workers c.in_ok-end-in-len1-up.end
    c.in_ok-end-in-len1-up.ensures c.args.ends.now.items c.push.new.self.items c.run_rest.new.ends.items
    c.in_ok-push-in-len1-up.ensures.items c.run_rest.result c.run_rest.ensures
