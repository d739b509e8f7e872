use Rattle.cbv_terms.proofs.Scanning.{some_first_fault, one_first_fault}
use Rattle.cbv_terms.proofs.Accepting.{faultless_accepted, accepted_faultless}
use Rattle.cbv_terms.proofs.laws.law_faults.Goals as goal

pub returns-clause-accepted : goal.returns-clause-accepted
returns-clause-accepted c = λ tree m t e. (faultless_accepted tree m t e, accepted_faultless tree m t e)

pub returns-clause-some : goal.returns-clause-some
returns-clause-some c = some_first_fault

pub returns-clause-one : goal.returns-clause-one
returns-clause-one c = one_first_fault
