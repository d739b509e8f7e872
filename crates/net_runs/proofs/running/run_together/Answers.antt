use Rattle.std.proofs.Common.{subst, ap, ◌∙◌}
use Rattle.token_pool.specs.Pools.{Pool}
use Rattle.token_pool.specs.Ending.{Replays}
use Rattle.net_runs.proofs.ReplayIsRun.{replayed}
use Rattle.net_runs.proofs.running.run_together.Goals as goal

pub returns : goal.returns
returns g c =
    let e = c.in_ok-finish_own.field-0 in
    let same = c.play_together-pool.ensures ∙ ap (λ (p : Pool). p.net) c.in_ok-pool.ensures in
    replayed c.args.net.now c.args.budget c.args.workers e
    (subst (λ net. Replays net c.args.budget c.args.workers e) same c.in_ok-finish_own.ensures.replays)
