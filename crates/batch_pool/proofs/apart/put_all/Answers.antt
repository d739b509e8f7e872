use Rattle.std.proofs.Common.{ap, ◌∙◌}
use Rattle.batch_pool.specs.Apart.{with_ends}
use Rattle.batch_pool.proofs.Whole.{put_popped}
use Rattle.batch_pool.proofs.apart.put_all.Goals as goal

pub loop-ran-preserved : goal.loop-ran-preserved
loop-ran-preserved c =
    let rans = c.loop-ran.rans.items in
    let rest = c.pop.new.self.items in
    ap (with_ends rest) c.put.ensures
    ∙ put_popped rans rest c.pop.result c.in-Some.ran c.pop.ensures.items c.in-Some.is c.loop-ran.places.items
    ∙ c.loop-ran.invariant
