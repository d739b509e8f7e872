use Rattle.std.proofs.Common.{ap, sym, ◌∙◌}
use Rattle.std.specs.Prelude.{map}
use Rattle.std.specs.FinMap.{insert}
use Rattle.fork_join.specs.Listed.{open_of}
use Rattle.fork_join.specs.Filling.{emptied}
use Rattle.fork_join.proofs.Filling.{filled_next, back}
use Rattle.fork_join.proofs.adding.put_list.Goals as goal

pub loop-one-preserved : goal.loop-one-preserved
loop-one-preserved c =
    c.in-Ok.ensures.ok ∙ ap (λ f. insert f (open_of c.one-item.result).0 (open_of c.one-item.result).1) c.loop-one.invariant
    ∙ sym (filled_next c.loop-one.one-index c.args.list.now c.one-item.result c.loop-one-test.true c.one-item.is c.args.table.now)

pub returns-in-Err-clause-err : goal.returns-in-Err-clause-err
returns-in-Err-clause-err c =
    c.take_list.ensures ∙ ap (emptied (map open_of c.args.list.now)) (c.in-Err.ensures.err ∙ c.loop-one.invariant)
    ∙ back c.loop-one.one-index c.args.list.now c.args.table.now c.requires
