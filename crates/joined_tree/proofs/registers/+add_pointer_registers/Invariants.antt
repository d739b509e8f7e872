use Rattle.joined_tree.proofs.registers.+add_pointer_registers.Given as goal

abbrev pub decreases-add_pointer_registers : goal.decreases-add_pointer_registers
decreases-add_pointer_registers l = l.n
