use Rattle.joined_means.proofs.Tells.{function_tells, function_times, function_fits}
use Rattle.joined_means.proofs.laws.law_joined_function.Goals as goal

pub returns-clause-tells : goal.returns-clause-tells
returns-clause-tells c = function_tells

pub returns-clause-times : goal.returns-clause-times
returns-clause-times c = function_times

pub returns-clause-fits : goal.returns-clause-fits
returns-clause-fits c = function_fits
