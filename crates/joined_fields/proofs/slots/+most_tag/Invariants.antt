use Rattle.std.proofs.Common.{length}
use Rattle.joined_fields.proofs.slots.+most_tag.Given as goal

abbrev pub decreases-most_tag : goal.decreases-most_tag
decreases-most_tag l = length l.slots.now
