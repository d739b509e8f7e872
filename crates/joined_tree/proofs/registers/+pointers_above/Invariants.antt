use Rattle.joined_tree.proofs.registers.+pointers_above.Given as goal

abbrev pub decreases-pointers_above : goal.decreases-pointers_above
decreases-pointers_above l = l.n
