use Rattle.net_terms.proofs.Complete.{complete}
use Rattle.net_terms.proofs.laws.law_net_read_back.Goals as goal

pub returns : goal.returns
returns c = complete
