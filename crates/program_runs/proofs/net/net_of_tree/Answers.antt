use Rattle.pcf_values.specs.Views.{named_of}
use Rattle.program_runs.proofs.Texts.{net_of_runner}
use Rattle.program_runs.proofs.net.net_of_tree.Goals as goal

pub returns-clause-net : goal.returns-clause-net
returns-clause-net c =
    net_of_runner c.law_never_stuck.ensures.runs c.law_tells.ensures.moves c.args.calling (named_of c.args.tree.now)
    c.in_ok-runner.runner c.in_ok-net.field-0 c.in_ok-runner.ensures.runner c.in_ok-net.ensures
