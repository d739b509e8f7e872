use Rattle.joined_tree.proofs.registers.+add_args.Given as goal

abbrev pub decreases-add_args : goal.decreases-add_args
decreases-add_args l = l.n
