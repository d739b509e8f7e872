use Rattle.std.proofs.Common.{sym, ap, ◌∙◌, arith}
use Rattle.token_pool.specs.Pools.{count_held}
use Rattle.token_pool.specs.Turns.{count_free}
use Rattle.token_pool.proofs.Seen.{seen}
use Rattle.token_pool.proofs.Standing.{all_counted}
use Rattle.token_pool.proofs.pool.PoolState.free_count.Goals as goal

pub overflow_sub-result : goal.overflow_sub-result
overflow_sub-result c =
    let p = seen c.self.inside in
    let all = all_counted p c.self.invariant.0 in
    let live = c.live_count.ensures in
    let held = c.held_count.ensures ∙ ap (λ q. count_held q.held) (sym c.self.view_is) in
    omega (arith, all, live, held)

pub returns : goal.returns
returns c =
    let p = seen c.self.inside in
    let all = all_counted p c.self.invariant.0 in
    let live = c.live_count.ensures in
    let held = c.held_count.ensures ∙ ap (λ q. count_held q.held) (sym c.self.view_is) in
    let free = ap count_free c.self.view_is in
    omega (arith, all, live, held, free)
