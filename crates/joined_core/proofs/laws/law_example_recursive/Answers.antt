use Rattle.std.proofs.Common.{refl}
use Rattle.joined_core.proofs.laws.law_example_recursive.Goals as goal

pub returns-clause-computes : goal.returns-clause-computes
returns-clause-computes c = (refl, refl, refl, refl)

pub returns-clause-right : goal.returns-clause-right
returns-clause-right c = refl

pub returns-clause-counted : goal.returns-clause-counted
returns-clause-counted c = (refl, refl, refl)
