use Rattle.goi_world.proofs.Lookups.{lacked_none_named, none_named_lacked}
use Rattle.goi_world.proofs.laws.law_lacks_exactly.Goals as goal

pub returns : goal.returns
returns c m name = (lacked_none_named m.files name, none_named_lacked m.files name)
