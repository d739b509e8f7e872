use Rattle.joined_tree.proofs.registers.+add_holds.Given as goal

abbrev pub decreases-add_holds : goal.decreases-add_holds
decreases-add_holds l = l.n
