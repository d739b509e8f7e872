use Rattle.function_runs.proofs.applying.+arrows.Given as goal

abbrev pub decreases-arrows : goal.decreases-arrows
decreases-arrows l = l.most
