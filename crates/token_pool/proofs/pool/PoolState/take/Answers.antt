use Rattle.std.proofs.Common.{refl}
use Rattle.token_pool.proofs.Standing.{told_live, told_good, within_small}
use Rattle.token_pool.proofs.Seen.{seen}
use Rattle.token_pool.proofs.pool.PoolState.take.Goals as goal

pub hand-requires : goal.hand-requires
hand-requires c =
    told_live (seen c.self.inside) c.args.self.now c.args.worker c.told-told.result c.self.invariant.0 c.self.view_is c.requires
    c.told-told.ensures

pub invariant_of-self : goal.invariant_of-self
invariant_of-self c = (
  told_good (seen c.self.inside) c.args.self.now c.args.worker c.told-told.result c.hold.new.self c.self.invariant.0 c.self.view_is
      c.requires c.told-told.ensures
      c.hold.ensures,
  c.self.invariant.1,
)

pub hold-requires-clause-small : goal.hold-requires-clause-small
hold-requires-clause-small c =
    let p = seen c.self.inside in
    within_small _ (told_good p c.args.self.now c.args.worker c.told-told.result _ c.self.invariant.0 c.self.view_is c.requires
    c.told-told.ensures refl)
