use Rattle.open_net_laws.proofs.Parts.{has, sizes, applied_net}
use Rattle.open_net_laws.proofs.laws.law_applied.Goals as goal

pub returns-clause-has : goal.returns-clause-has
returns-clause-has c = has

pub returns-clause-size : goal.returns-clause-size
returns-clause-size c = sizes

pub returns-clause-net : goal.returns-clause-net
returns-clause-net c = applied_net
