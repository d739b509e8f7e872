use Rattle.net_check.proofs.Verdict.{one_fault, fault_unsound}
use Rattle.net_check.proofs.checking.law_net_one_fault.Goals as goal

pub returns-clause-one : goal.returns-clause-one
returns-clause-one c = one_fault

pub returns-clause-none : goal.returns-clause-none
returns-clause-none c = fault_unsound
