use Rattle.test_core.proofs.watched.met_by_the_double.Given as goal

abbrev pub ghosts-met_beside-M-Watched : goal.ghosts-met_beside-M-Watched
ghosts-met_beside-M-Watched g a =
    record { run = record { meter = a.writer.meter; net = a.pool.net; budget = a.pool.budget; workers = a.pool.workers } }

abbrev pub ghosts-met_beside-N-OnNet : goal.ghosts-met_beside-N-OnNet
ghosts-met_beside-N-OnNet g a = record { net = a.pool.net }
