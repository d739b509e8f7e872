use Rattle.walk_text.proofs.Places.{first_stands}
use Rattle.walk_text.proofs.place.first_place.Goals as goal

pub returns : goal.returns
returns c = first_stands c.args.runs.now c.requires
