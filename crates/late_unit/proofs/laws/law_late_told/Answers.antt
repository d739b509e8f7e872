use Rattle.late_unit.proofs.Steps.{late_free, late_busy, late_tells}
use Rattle.late_unit.proofs.laws.law_late_told.Goals as goal

pub returns-clause-free : goal.returns-clause-free
returns-clause-free c = late_free

pub returns-clause-busy : goal.returns-clause-busy
returns-clause-busy c = late_busy

pub returns-clause-tells : goal.returns-clause-tells
returns-clause-tells c = late_tells
