use Rattle.demo_text.proofs.text.+sum_text.Given as goal

abbrev pub decreases-sum_text : goal.decreases-sum_text
decreases-sum_text l = l.depth
