use Rattle.net_build.proofs.Bounds.{net_size}
use Rattle.net_build.proofs.laws.law_net_size.Goals as goal

pub returns : goal.returns
returns c = net_size
