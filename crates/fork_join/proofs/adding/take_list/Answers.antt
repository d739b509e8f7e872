use Rattle.std.proofs.Common.{ap, sym, ◌∙◌}
use Rattle.std.specs.FinMap.{remove}
use Rattle.fork_join.specs.Listed.{open_of}
use Rattle.fork_join.proofs.Filling.{emptied_next}
use Rattle.fork_join.proofs.adding.take_list.Goals as goal

pub loop-one-preserved : goal.loop-one-preserved
loop-one-preserved c =
    c.remove.ensures ∙ ap (λ f. remove f (open_of c.one-item.result).0) c.loop-one.invariant
    ∙ sym (emptied_next c.loop-one.one-index c.args.list.now c.one-item.result c.loop-one-test.true c.one-item.is c.args.table.now)
