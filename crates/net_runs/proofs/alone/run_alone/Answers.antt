use Rattle.net_runs.specs.IsRun.{IsRun}
use Rattle.net_runs.proofs.AloneIsRun.{one_above}
use Rattle.net_runs.proofs.alone.run_alone.Goals as goal

pub returns-clause-run : goal.returns-clause-run
returns-clause-run c =
    one_above c.run_by.result (λ e workers. IsRun c.args.net.now workers c.args.budget e.answer e.log.entries) c.run_by.ensures.run
