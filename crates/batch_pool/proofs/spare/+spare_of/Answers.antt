use Rattle.std.proofs.Common.{◌-◌, length, take, drop, arith}
use Rattle.batch_pool.proofs.Counts.{spared_small}
use Rattle.batch_pool.proofs.spare.+spare_of.Goals as goal

pub overflow_add-result : goal.overflow_add-result
overflow_add-result t c =
    let rest = take (length c.args.pools.now - 1) (drop 1 c.args.pools.now) in
    let most = spared_small rest c.spare_of.result c.spare_of.ensures in
    let few = c.spare_of.ensures.few in
    let one = c.spare_pieces.type_inv in
    omega (arith, most, few, one)
