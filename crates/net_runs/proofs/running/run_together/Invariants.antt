use Rattle.net_runs.proofs.running.run_together.Given as goal

abbrev pub ghosts-play_together : goal.ghosts-play_together
ghosts-play_together g a = record { net = a.pool.net }
