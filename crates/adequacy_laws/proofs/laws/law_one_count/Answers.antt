use Rattle.adequacy_laws.proofs.Counting.{one_count}
use Rattle.adequacy_laws.proofs.laws.law_one_count.Goals as goal

pub returns : goal.returns
returns c = one_count
