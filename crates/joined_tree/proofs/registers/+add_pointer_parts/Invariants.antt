use Rattle.joined_tree.proofs.registers.+add_pointer_parts.Given as goal

abbrev pub decreases-add_pointer_parts : goal.decreases-add_pointer_parts
decreases-add_pointer_parts l = l.n
