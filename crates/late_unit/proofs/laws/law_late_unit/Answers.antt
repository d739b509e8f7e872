use Rattle.late_unit.proofs.Steps.{late_same, late_reset, late_rests, late_starts, late_goes, late_takes}
use Rattle.late_unit.proofs.laws.law_late_unit.Goals as goal

pub returns-clause-same : goal.returns-clause-same
returns-clause-same c = late_same

pub returns-clause-reset : goal.returns-clause-reset
returns-clause-reset c = late_reset

pub returns-clause-rests : goal.returns-clause-rests
returns-clause-rests c = late_rests

pub returns-clause-starts : goal.returns-clause-starts
returns-clause-starts c = late_starts

pub returns-clause-goes : goal.returns-clause-goes
returns-clause-goes c = late_goes

pub returns-clause-takes : goal.returns-clause-takes
returns-clause-takes c = late_takes
