use Rattle.test_core.proofs.branch_pools.ended.Given as goal

abbrev pub ghosts-plays_all : goal.ghosts-plays_all
ghosts-plays_all a = record { net = a.net.now }
