use Rattle.goi_world.proofs.Lookups.{first_counts}
use Rattle.goi_world.proofs.laws.law_first_counts.Goals as goal

pub returns : goal.returns
returns c m before after name bytes files none = rw files (first_counts before after name bytes none)
