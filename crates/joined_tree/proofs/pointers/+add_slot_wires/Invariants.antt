use Rattle.std.proofs.Common.{length}
use Rattle.joined_tree.proofs.pointers.+add_slot_wires.Given as goal

abbrev pub decreases-add_slot_wires : goal.decreases-add_slot_wires
decreases-add_slot_wires l = length l.slots.now
