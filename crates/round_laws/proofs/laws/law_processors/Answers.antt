use Rattle.round_laws.proofs.Scheduled.{processors_can}
use Rattle.round_laws.proofs.Working.{work_takes_units, bound_of_graham}
use Rattle.round_laws.proofs.laws.law_processors.Goals as goal

pub returns-clause-can : goal.returns-clause-can
returns-clause-can c = processors_can

pub returns-clause-work : goal.returns-clause-work
returns-clause-work c = work_takes_units

pub returns-clause-graham : goal.returns-clause-graham
returns-clause-graham c = bound_of_graham
