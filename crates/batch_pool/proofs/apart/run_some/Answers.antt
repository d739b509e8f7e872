use Rattle.batch_pool.proofs.Whole.{ran_more}
use Rattle.batch_pool.proofs.apart.run_some.Goals as goal

pub loop-turn-preserved : goal.loop-turn-preserved
loop-turn-preserved g c =
    ran_more c.args.jobs.now c.args.worker c.fetch_add-number.result c.loop-turn.rans.items c.push.new.self.items c.in_ok-ran.field-0
    c.in-Some.ran c.loop-turn.invariant c.in_ok-ran.ensures.brings c.in-Some.is c.in_ok-push-in-Some.ensures.items
