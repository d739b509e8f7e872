use Rattle.std.proofs.Common.{refl}
use Rattle.token_pool.proofs.Standing.{branch_told_live, branch_told_good, hands_seed, within_small}
use Rattle.token_pool.proofs.Seen.{seen}
use Rattle.token_pool.proofs.pool.PoolState.take_branch.Goals as goal

pub hand-requires : goal.hand-requires
hand-requires c =
    branch_told_live (seen c.self.inside) c.args.self.now c.args.worker c.told_branch-told.result c.self.invariant.0 c.self.view_is
    c.requires c.told_branch-told.ensures

pub invariant_of-self : goal.invariant_of-self
invariant_of-self c = (
  branch_told_good (seen c.self.inside) c.args.self.now c.args.worker c.told_branch-told.result c.hold.new.self c.self.invariant.0
      c.self.view_is c.requires c.told_branch-told.ensures c.hold.ensures,
  c.self.invariant.1,
)

pub hold-requires-clause-small : goal.hold-requires-clause-small
hold-requires-clause-small c =
    let p = seen c.self.inside in
    within_small _ (branch_told_good p c.args.self.now c.args.worker c.told_branch-told.result _ c.self.invariant.0 c.self.view_is
    c.requires c.told_branch-told.ensures refl)

pub returns-clause-seed : goal.returns-clause-seed
returns-clause-seed c =
    hands_seed (seen c.self.inside) c.args.self.now c.args.worker c.told_branch-told.result c.in_ok-taken.taken c.self.invariant.0
    c.self.view_is c.requires c.told_branch-told.ensures c.in_ok-taken.ensures.handed
