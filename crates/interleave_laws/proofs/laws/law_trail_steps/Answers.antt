use Rattle.interleave_laws.proofs.TrailSteps.{walk_run, walk_map, trail_map}
use Rattle.interleave_laws.proofs.laws.law_trail_steps.Goals as goal

pub returns-clause-steps : goal.returns-clause-steps
returns-clause-steps c = walk_run

pub returns-clause-maps : goal.returns-clause-maps
returns-clause-maps c = walk_map

pub returns-clause-trails : goal.returns-clause-trails
returns-clause-trails c = trail_map
