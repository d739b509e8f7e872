use Rattle.metered_pool.proofs.watching.drive_new.Given as goal

abbrev pub ghosts-drive_named-M-Watched : goal.ghosts-drive_named-M-Watched
ghosts-drive_named-M-Watched g a =
    record { run = record { meter = a.writer.meter; net = a.pool.net; budget = a.pool.budget; workers = a.pool.workers } }

abbrev pub ghosts-drive_named-N-OnNet : goal.ghosts-drive_named-N-OnNet
ghosts-drive_named-N-OnNet g a = record { net = a.pool.net }
