use Rattle.std.proofs.Common.{length}
use Rattle.joined_check.proofs.numbers.+place.Given as goal

abbrev pub decreases-place : goal.decreases-place
decreases-place l = length l.ports.now
