use Rattle.net_runs.proofs.ReplayIsRun.{replayed}
use Rattle.metered_pool.proofs.watching.finish.Goals as goal

pub returns-clause-run : goal.returns-clause-run
returns-clause-run c =
    replayed c.args.pool.net c.args.budget c.args.workers c.in_ok-finish_own.field-0 c.in_ok-finish_own.ensures.replays
