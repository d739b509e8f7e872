use Rattle.std.proofs.Common.{refl}
use Rattle.interleave_laws.proofs.laws.law_example_runs.Goals as goal

pub returns-clause-one : goal.returns-clause-one
returns-clause-one c = refl

pub returns-clause-answer : goal.returns-clause-answer
returns-clause-answer c = refl

pub returns-clause-other : goal.returns-clause-other
returns-clause-other c = refl
