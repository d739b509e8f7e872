use Rattle.net_rows.proofs.Rows.{law}
use Rattle.net_rows.proofs.laws.law_net_rows.Goals as goal

pub returns : goal.returns
returns c = law
