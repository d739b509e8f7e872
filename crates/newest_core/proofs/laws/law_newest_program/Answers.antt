use Rattle.newest_core.proofs.Meaning.{newest_means}
use Rattle.newest_core.proofs.laws.law_newest_program.Goals as goal

pub returns : goal.returns
returns c m h = newest_means m h (c.law_built_sound.ensures m h)
