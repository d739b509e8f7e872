use Rattle.joined_timed.proofs.Runs.{timed_along}
use Rattle.joined_timed.proofs.laws.law_timed_along.Goals as goal

pub returns : goal.returns
returns c = timed_along
