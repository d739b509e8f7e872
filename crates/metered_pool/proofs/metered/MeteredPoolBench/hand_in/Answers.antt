use Rattle.metered_pool.proofs.Booked.{books_if_ok}
use Rattle.metered_pool.proofs.metered.MeteredPoolBench.hand_in.Goals as goal

pub returns-clause-ok : goal.returns-clause-ok
returns-clause-ok g c =
    books_if_ok c.book.result (record { pool = c.self.inside.pool; writer = c.self.inside.writer }) c.args.self.now c.args.worker
    c.args.made c.book.new.pool c.book.new.writer c.self.view_is c.book.ensures.taken c.book.ensures.published
