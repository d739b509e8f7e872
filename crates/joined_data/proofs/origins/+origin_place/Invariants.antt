use Rattle.std.proofs.Common.{length}
use Rattle.joined_data.proofs.origins.+origin_place.Given as goal

abbrev pub decreases-origin_place : goal.decreases-origin_place
decreases-origin_place l = length l.list.now
