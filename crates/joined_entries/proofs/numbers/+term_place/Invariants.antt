use Rattle.std.proofs.Common.{length}
use Rattle.joined_entries.proofs.numbers.+term_place.Given as goal

abbrev pub decreases-term_place : goal.decreases-term_place
decreases-term_place l = length l.shapes.now
