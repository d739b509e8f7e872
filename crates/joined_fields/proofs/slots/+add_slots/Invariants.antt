use Rattle.joined_fields.proofs.slots.+add_slots.Given as goal

abbrev pub decreases-add_slots : goal.decreases-add_slots
decreases-add_slots l = l.n
