use Rattle.batch_pool.proofs.Whole.{runs_apart}
use Rattle.batch_pool.proofs.apart.run_apart.Goals as goal

pub returns : goal.returns
returns g c =
    runs_apart c.args.workers c.requires.several (λ v. v.items) c.in_turn.result c.args.jobs.now c.in_ok-rans.rans.items
    c.in_ok-rans.ensures c.in_turn.ensures
