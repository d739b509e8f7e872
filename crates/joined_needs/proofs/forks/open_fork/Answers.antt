use Rattle.std.proofs.Common.{ap, ◌∙◌}
use Rattle.joined_needs.specs.Views.{forks_of}
use Rattle.joined_needs.proofs.Lists.{forks_back}
use Rattle.joined_needs.proofs.forks.open_fork.Goals as goal

pub returns : goal.returns
returns c = ap forks_of c.in_ok-push.ensures.items ∙ forks_back c.args.forks.now.items c.args.fork
