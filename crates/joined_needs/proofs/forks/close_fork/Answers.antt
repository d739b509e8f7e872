use Rattle.joined_needs.proofs.forks.close_fork.Goals as goal

pub returns : goal.returns
returns c = c.take_fork.ensures.around
