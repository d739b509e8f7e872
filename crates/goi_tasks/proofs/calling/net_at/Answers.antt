use Rattle.goi_tasks.proofs.Functions.{runs_applied}
use Rattle.goi_tasks.proofs.calling.net_at.Goals as goal

pub returns-clause-net : goal.returns-clause-net
returns-clause-net c =
    runs_applied c.law_never_stuck.ensures.runs c.law_tells.ensures.moves c.args.numbers.now c.args.bytes.now c.in_ok-function.function
    c.into_net.result c.in_ok-function.ensures.function c.into_net.ensures.net c.into_net.ensures.typed
