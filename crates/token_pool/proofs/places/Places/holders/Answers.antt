use Rattle.std.proofs.Common.{ap, ◌∙◌, arith}
use Rattle.token_pool.specs.Pools.{count_held}
use Rattle.token_pool.proofs.Counting.{count_few}
use Rattle.token_pool.proofs.places.Places.holders.Goals as goal

pub returns-clause-few : goal.returns-clause-few
returns-clause-few c =
    let few = count_few c.args.self.now in
    let counted = c.self.invariant.count ∙ ap count_held c.self.view_is in
    omega (arith, few, counted)
