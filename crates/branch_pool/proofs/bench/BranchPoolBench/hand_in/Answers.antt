use Rattle.std.proofs.Common.{IfOk, subst}
use Rattle.token_pool.specs.Pools.{Pool}
use Rattle.branch_pool.specs.Benches.{TakesBranch}
use Rattle.branch_pool.proofs.bench.BranchPoolBench.hand_in.Goals as goal

pub returns-clause-ok : goal.returns-clause-ok
returns-clause-ok g c =
    subst (λ (p : Pool). IfOk c.take_in.result (λ _. TakesBranch p c.args.worker c.args.made c.take_in.new.pool)) c.self.view_is
    c.take_in.ensures.ok
