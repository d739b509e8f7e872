use Rattle.open_net_laws.proofs.Exchanged.{other, same_shape}
use Rattle.open_net_laws.proofs.laws.law_numbers.Goals as goal

pub returns-clause-numbers : goal.returns-clause-numbers
returns-clause-numbers c = other

pub returns-clause-shape : goal.returns-clause-shape
returns-clause-shape c = same_shape
