use Rattle.net_build.proofs.Built.{built_sound}
use Rattle.net_build.proofs.laws.law_built_sound.Goals as goal

pub returns : goal.returns
returns c = built_sound
