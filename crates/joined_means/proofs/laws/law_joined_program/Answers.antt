use Rattle.joined_means.proofs.Programs.{program_tells, program_times, program_fits}
use Rattle.joined_means.proofs.laws.law_joined_program.Goals as goal

pub returns-clause-tells : goal.returns-clause-tells
returns-clause-tells c = program_tells

pub returns-clause-times : goal.returns-clause-times
returns-clause-times c = program_times

pub returns-clause-fits : goal.returns-clause-fits
returns-clause-fits c = program_fits
