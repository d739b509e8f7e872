use Rattle.std.proofs.Common.{length}
use Rattle.joined_fields.proofs.fields.+add_slot_fields.Given as goal

abbrev pub decreases-add_slot_fields : goal.decreases-add_slot_fields
decreases-add_slot_fields l = length l.slots.now
