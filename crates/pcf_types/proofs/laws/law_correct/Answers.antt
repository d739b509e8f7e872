use Rattle.pcf_types.proofs.NoMemory.{never_memory}
use Rattle.pcf_types.proofs.Sound.{good}
use Rattle.pcf_types.proofs.Complete.{typed_accepted, one_type, one_term}
use Rattle.pcf_types.proofs.laws.law_correct.Goals as goal

pub returns-clause-sound : goal.returns-clause-sound
returns-clause-sound c = λ g tree m t. good tree g (m, t)

pub returns-clause-complete : goal.returns-clause-complete
returns-clause-complete c = typed_accepted

pub returns-clause-one_type : goal.returns-clause-one_type
returns-clause-one_type c = one_type

pub returns-clause-one_term : goal.returns-clause-one_term
returns-clause-one_term c = one_term

pub returns-clause-no_memory : goal.returns-clause-no_memory
returns-clause-no_memory c = never_memory
