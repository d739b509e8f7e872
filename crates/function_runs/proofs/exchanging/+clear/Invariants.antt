use Rattle.function_runs.proofs.exchanging.+clear.Given as goal

abbrev pub decreases-clear : goal.decreases-clear
decreases-clear l = l.count
