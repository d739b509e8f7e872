use Rattle.net_terms.proofs.Complete.{one_term}
use Rattle.net_terms.proofs.laws.law_one_term.Goals as goal

pub returns : goal.returns
returns c = one_term
