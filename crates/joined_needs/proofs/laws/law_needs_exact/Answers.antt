use Rattle.joined_needs.proofs.Exact.{needs_exact, needs_same}
use Rattle.joined_needs.proofs.laws.law_needs_exact.Goals as goal

pub returns-clause-exact : goal.returns-clause-exact
returns-clause-exact c = needs_exact

pub returns-clause-same : goal.returns-clause-same
returns-clause-same c = needs_same
