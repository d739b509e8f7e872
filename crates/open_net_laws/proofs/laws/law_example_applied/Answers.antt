use Rattle.std.proofs.Common.{refl}
use Rattle.open_net_laws.proofs.laws.law_example_applied.Goals as goal

pub returns : goal.returns
returns c = record { nodes = refl; places = refl; other = refl }
