use Rattle.std.proofs.Common.{refl}
use Rattle.joined_core.proofs.laws.law_example_table.Goals as goal

pub returns-clause-computes : goal.returns-clause-computes
returns-clause-computes c = (refl, refl, refl, refl)

pub returns-clause-right : goal.returns-clause-right
returns-clause-right c = refl

pub returns-clause-refused : goal.returns-clause-refused
returns-clause-refused c = (refl, refl)

pub returns-clause-numbers : goal.returns-clause-numbers
returns-clause-numbers c = (refl, refl, refl, refl)
