use Rattle.token_pool.proofs.Writing.{writes_next}
use Rattle.token_pool.proofs.branches.write_branch.Goals as goal

pub loop-left-preserved : goal.loop-left-preserved
loop-left-preserved c =
    writes_next c.args.worker c.args.ticket c.args.next _ c.loop-left.log c.write_run.new.log c.loop-left.left.now
    (record { ticket = 0; count = 0 }) c.in-len1-up.len_at_least c.loop-left.invariant c.write_run.ensures
