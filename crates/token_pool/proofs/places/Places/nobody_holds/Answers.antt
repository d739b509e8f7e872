use Rattle.std.proofs.Common.{ap, ◌∙◌}
use Rattle.token_pool.specs.Pools.{count_held}
use Rattle.token_pool.proofs.Counting.{none_by_count}
use Rattle.token_pool.proofs.places.Places.nobody_holds.Goals as goal

pub returns : goal.returns
returns c = none_by_count c.args.self.now c.self.inside.holders (c.self.invariant.count ∙ ap count_held c.self.view_is)
