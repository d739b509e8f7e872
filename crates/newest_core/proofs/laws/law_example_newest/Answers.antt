use Rattle.std.proofs.Common.{refl}
use Rattle.newest_core.proofs.laws.law_example_newest.Goals as goal

pub returns-clause-sums : goal.returns-clause-sums
returns-clause-sums c = (refl, refl)

pub returns-clause-recursive : goal.returns-clause-recursive
returns-clause-recursive c = (refl, refl)
