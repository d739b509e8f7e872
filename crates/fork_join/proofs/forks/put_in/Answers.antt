use Rattle.std.proofs.Common.{Some, None, sym, arith}
use Rattle.std.proofs.lemmas.Grind.{common_steps}
use Rattle.fork_join.proofs.Nesting.{puts}
use Rattle.fork_join.proofs.forks.put_in.Goals as goal

pub returns-in_ok-open-in-Some-clause-ok : goal.returns-in_ok-open-in-Some-clause-ok
returns-in_ok-open-in-Some-clause-ok c =
    let there = sym c.in-Some.ensures.value in
    puts _ _ _ _ (Some c.in-Some.forks.now) c.open.new.forks _ there (λ q. grind (arith, common_steps)) c.in_ok-open-in-Some.ensures.ok

pub returns-in_ok-insert-in-None-clause-ok : goal.returns-in_ok-insert-in-None-clause-ok
returns-in_ok-insert-in-None-clause-ok c =
    puts _ _ _ _ None c.open-in-None.new.forks _ (sym c.in-None.ensures.value)
    (λ q. grind (arith, common_steps, c.in_ok-insert-in-None.ensures.updates.0 q))
    (λ u. grind (arith, common_steps, c.in_ok-open-in-None.ensures.ok u, c.new-forks.ensures.empty))
